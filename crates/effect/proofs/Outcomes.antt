-- Laws of running bytes: from the walk to the outcome, and from the outcome to what is told. Assumes nothing.
use Prim.Native.Nat.{ℕ, ◌≤◌}
use mathlib.Core.Bool.{true, false, true≢false}
use mathlib.Core.List.{List}
use mathlib.Core.Option.{Option, some, none, bind}
use mathlib.Core.Path.{◌≡◌, refl}
use Rattle.operation.specs.Limits.{Limits}
use Rattle.operation.specs.Tree.{Op}
use Rattle.operation.specs.Reading.{read_op, operation_of, is_some, well_formed}
use Rattle.operation.proofs.WellFormed.{formed, op_of}
use Rattle.effect.specs.Running.{run, outcome, Came, came, bit}
use Rattle.effect.specs.Telling.{told, malformed, tells, tells_op, tells_bytes}
use Rattle.effect.specs.Walking.{RunsOp}

module _ (l : Limits) (width : ℕ) (s c : List ℕ) where
  -- the outcome of bytes that are an operation is that of running it
  pub outcome_is : (p : Op) → operation_of l width s ≡ some p → outcome l width s c ≡ run l p c
  unfolding outcome bind
  outcome_is p e = rw e

  module _ (good : well_formed l width s ≡ true) where
    pub cells_there : width ≤ l.cells
    cells_there = let p = op_of l width s good in (formed l width s p.0 p.1).cells

    pub walked : (r : Came) → RunsOp l (read_op l width l.depth) s c r → r ≡ came c (outcome l width s c)
    walked r ran =
        let p = op_of l width s good in
        rw (outcome_is p.0 p.1) (ran p.0 (formed l width s p.0 p.1).is_read)

    tells_op_lem : tells l width s c ≡ tells_op c (outcome l width s c)
    unfolding tells
    tells_op_lem = let p = op_of l width s good in rw (outcome_is p.0 p.1, p.1)

    -- so what is told of them is what came of running them
    pub told_came :
        tells l width s c ≡ record {
          answer = 0;
          outcome = bit (came c (outcome l width s c)).ok;
          cells = (came c (outcome l width s c)).cells;
        }
    told_came = rw tells_op_lem (go (outcome l width s c))
      where
        go :
            (o : Option (List ℕ)) →
            tells_op c o ≡ record { answer = 0; outcome = bit (came c o).ok; cells = (came c o).cells }
        go (some d) = refl
        go none = refl

  pub told_malformed : well_formed l width s ≡ false → told malformed c ≡ tells l width s c
  unfolding well_formed tells
  told_malformed bad = go (operation_of l width s) bad
    where
      go : (o : Option Op) → is_some o ≡ false → told malformed c ≡ tells_bytes l c o
      go (some p) h = absurd (true≢false h)
      go none h = refl

-- one for each way out of the code that runs any bytes
pub ruleset told_laws = (told_malformed, told_came)
