-- What an operation does to the cells. Assumes nothing: these are definitions.
use Rattle.std.specs.Prelude.{ℕ, ◌+◌, ◌-◌, Bool, true, false, ◌&&◌, List, leb, length, get_or, set, replicate, if◌then◌else◌}
use Rattle.std.proofs.Math.Option.{Option, some, none, bind, or_else}
use Rattle.basics.specs.Over.{over}
use Rattle.operation.specs.Limits.{Limits}
use Rattle.operation.specs.Tree.{Op, Ops, plain, atomic, orelse, end, ◌then◌}
use Rattle.operation.specs.Reading.{operation_of}
use Rattle.operation.specs.declared.Plain.{Plain}
use Rattle.operation.specs.declared.Plain.TheVariants.{Need, Put, Draw, Move}

-- what cell k holds
abbrev pub cell : List ℕ → ℕ → ℕ
cell c k = get_or c k 0

-- the cells that hold these counts, and zeros after them
unfoldable pub filled : Limits → List ℕ → List ℕ
filled l first = over (length first) first (replicate l.cells 0)

-- the cells after a plain operation, or none where it fails
unfoldable pub step : Limits → Plain → List ℕ → Option (List ℕ)
step l (Need k a) c = if leb a (cell c k) then some c else none
step l (Put k a) c = if leb (cell c k + a) l.held then some (set c k (cell c k + a)) else none
step l (Draw k a) c = if leb a (cell c k) then some (set c k (cell c k - a)) else none
step l (Move k j a) c =
    if leb a (cell c k) && leb (cell c j + a) l.held
    then some (set (set c k (cell c k - a)) j (cell c j + a))
    else none

-- the cells after an operation, or none where it fails
unfoldable mutual
  pub run : Limits → Op → List ℕ → Option (List ℕ)
  run l (plain p) c = step l p c
  run l (atomic ps) c = run_all l ps c
  run l (orelse p q) c = or_else (run l p c) (run l q c)

  pub run_all : Limits → Ops → List ℕ → Option (List ℕ)
  run_all l end c = some c
  run_all l (p then ps) c = bind (run l p c) (λ d. run_all l ps d)

-- the cells after bytes are run, or none where they are malformed or fail
unfoldable pub outcome : Limits → ℕ → List ℕ → List ℕ → Option (List ℕ)
outcome l width s c = bind (operation_of l width s) (λ p. run l p c)

-- whether it succeeded, and what the cells came to: a failing operation changes none
pub record Came : Type 0 where
  pub ok : Bool
  pub cells : List ℕ

abbrev pub did : Bool → List ℕ → Came
did ok c = record { ok = ok; cells = c }

abbrev pub came : List ℕ → Option (List ℕ) → Came
came c (some d) = did true d
came c none = did false c

-- an outcome as a number: 1 where it succeeded, 0 where it failed
abbrev pub bit : Bool → ℕ
bit true = 1
bit false = 0
