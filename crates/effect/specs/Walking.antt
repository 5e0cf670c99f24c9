-- What the walk over the bytes ensures: where an operation, or parts, can be read, what running them gives.
-- Assumes nothing: these are definitions.
use Rattle.std.specs.Prelude.{ℕ, ◌<◌, true, false, List, ◌≡◌}
use Rattle.std.proofs.Math.Option.{Option, some, none}
use Rattle.operation.specs.Limits.{Limits}
use Rattle.operation.specs.Tree.{Op, Ops}
use Rattle.operation.specs.Reading.{read_parts, read_two}
use Rattle.operation.specs.declared.Plain.{Plain}
use Rattle.operation.specs.declared.Plain.TheVariants.{Need, Put, Draw, Move}
use Rattle.effect.specs.Running.{run, run_all, Came, did, came}

-- the cells that a plain operation names are below n
abbrev pub Inside : ℕ → Plain → Type 0
Inside n (Need k a) = k < n
Inside n (Put k a) = k < n
Inside n (Draw k a) = k < n
Inside n (Move k j a) = (k < n) × (j < n)

module _ (l : Limits) (reader : List ℕ → Option Op) where
  abbrev pub RunsOp : List ℕ → List ℕ → Came → Type 0
  RunsOp s c r = (p : Op) → reader s ≡ some p → r ≡ came c (run l p c)

  abbrev pub RunsEither : List ℕ → List ℕ → Came → Type 0
  RunsEither s c r = (p : Op) → read_two reader s ≡ some p → r ≡ came c (run l p c)

  abbrev pub RunsAtomic : ℕ → List ℕ → List ℕ → Came → Type 0
  RunsAtomic n s c r = (ps : Ops) → read_parts reader n s ≡ some ps → r ≡ came c (run_all l ps c)

  -- parts that do not all succeed leave the cells open
  abbrev pub Leaves : Option (List ℕ) → Came → Type 0
  Leaves (some d) r = r ≡ did true d
  Leaves none r = r.ok ≡ false

  abbrev pub RunsParts : ℕ → List ℕ → List ℕ → Came → Type 0
  RunsParts n s c r = (ps : Ops) → read_parts reader n s ≡ some ps → Leaves (run_all l ps c) r
