-- Laws of replaying: none, one more at the end, and one list after another. Assumes nothing.
use Prim.Native.Nat.{ℕ, ◌+◌, ◌<◌}
use native.Mathlib.Numerals.{add-one}
use mathlib.Core.Bool.{Bool}
use mathlib.Core.List.{List, [], ◌∷◌, ◌++◌, map-append}
use mathlib.Core.Path.{◌≡◌, refl, ap}
use native.Mathlib.Omega.{arith}
use lib.ListN.{length, get_or, take, length-take}
use lib.Seq.{take-suc, get_or-take}
use Rattle.operation.specs.Limits.{Limits}
use Rattle.operation.specs.Packing.{unpacked, nothing}
use Rattle.operation.specs.declared.Packed.{Packed}
use Rattle.effect.specs.Running.{outcome, Came, did, came}
use Rattle.effect.specs.Replaying.{after, replay, queued, Sound, Ready}

module _ (l : Limits) (width : ℕ) where
  pub replay_append :
      (xs ys : List (List ℕ)) (c : List ℕ) → replay l width (xs ++ ys) c ≡ replay l width ys (replay l width xs c)
  unfolding replay
  replay_append [] ys c = refl
  replay_append (x ∷ xs) ys c = replay_append xs ys (after l width x c)

  module _ (queue : List Packed) (c : List ℕ) where
    pub replay_none : c ≡ replay l width (queued 0 queue) c
    unfolding replay
    replay_none = refl

    -- a loop that runs one more
    pub replay_more :
        (i : ℕ) (d e : List ℕ) (ok : Bool) → i < length queue → d ≡ replay l width (queued i queue) c →
        did ok e ≡ came d (outcome l width (unpacked (get_or queue i nothing)) d) →
        e ≡ replay l width (queued (i + 1) queue) c
    unfolding replay after
    replay_more i d e ok h before ran =
        rw (add-one, take-suc queue i nothing h, map-append, replay_append, ← before)
        (ap (λ (x : Came). x.cells) ran)

  -- the first n of a queue that is ready are sound, each
  pub ready_front :
      (n : ℕ) (queue : List Packed) → Ready l width n queue → (i : ℕ) → i < length (take n queue) →
      Sound l width (get_or (take n queue) i nothing)
  ready_front n queue ready i h =
      let k : i < n = omega (arith, simp length-take at h) in
      rw get_or-take (ready.sound i k)
