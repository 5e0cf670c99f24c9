-- Operations run one after another, those that fail among them. Assumes nothing: these are definitions.
use Rattle.std.specs.Prelude.{ℕ, ◌≤◌, ◌<◌, true, List, [], ◌∷◌, map, ◌≡◌, take, get_or}
use Rattle.operation.specs.Limits.{Limits}
use Rattle.operation.specs.Packing.{unpacked, nothing}
use Rattle.operation.specs.Reading.{well_formed}
use Rattle.operation.specs.declared.Packed.{Packed}
use Rattle.effect.specs.Running.{outcome, came}

-- how many operations a queue has at most
abbrev pub most_queued : ℕ
most_queued = 16

-- the cells after bytes were run: as they were where these fail
unfoldable pub after : Limits → ℕ → List ℕ → List ℕ → List ℕ
after l width s c = (came c (outcome l width s c)).cells

-- the cells after a list of them
unfoldable pub replay : Limits → ℕ → List (List ℕ) → List ℕ → List ℕ
replay l width [] c = c
replay l width (s ∷ ss) c = replay l width ss (after l width s c)

-- the first n of a queue
abbrev pub queued : ℕ → List Packed → List (List ℕ)
queued n queue = map unpacked (take n queue)

-- an operation that is kept as it was when it was judged
pub record Sound (l : Limits) (width : ℕ) (o : Packed) : Type 0 where
  pub fits : o.len ≤ l.bytes
  pub formed : well_formed l width (unpacked o) ≡ true

-- the first n of a queue are there, and each is sound
pub record Ready (l : Limits) (width n : ℕ) (queue : List Packed) : Type 0 where
  pub there : n ≤ most_queued
  pub sound : (i : ℕ) → i < n → Sound l width (get_or queue i nothing)
