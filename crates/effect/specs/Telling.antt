-- What running any bytes answers, in the paper's numbers. Assumes nothing: these are definitions.
use Rattle.std.specs.Prelude.{ℕ, List, Result, Ok, Err, ⊤}
use Rattle.std.proofs.Math.Option.{Option, some, none}
use Rattle.basics.specs.Refusals.{number_of}
use Rattle.basics.specs.declared.Refusal.TheVariants.{Malformed as MalformedOperation}
use Rattle.operation.specs.Limits.{Limits}
use Rattle.operation.specs.Tree.{Op}
use Rattle.operation.specs.Reading.{operation_of}
use Rattle.effect.specs.Running.{run}
use Rattle.effect.specs.declared.Failure.{Failure}
use Rattle.effect.specs.declared.Failure.TheVariants.{Malformed, Fails}

-- the answer's number, the outcome, 1 or 0, and the cells after it
pub record Told : Type 0 where
  pub answer : ℕ
  pub outcome : ℕ
  pub cells : List ℕ

-- what each result says
abbrev pub told : Result ⊤ Failure → List ℕ → Told
told (Ok x) c = record { answer = 0; outcome = 1; cells = c }
told (Err Fails) c = record { answer = 0; outcome = 0; cells = c }
told (Err Malformed) c = record { answer = number_of MalformedOperation; outcome = 0; cells = c }

abbrev pub succeeds : Result ⊤ Failure
succeeds = Ok tt

abbrev pub fails : Result ⊤ Failure
fails = Err Fails

abbrev pub malformed : Result ⊤ Failure
malformed = Err Malformed

-- an operation fails, and changes no cell, or succeeds
abbrev pub tells_op : List ℕ → Option (List ℕ) → Told
tells_op c (some d) = told succeeds d
tells_op c none = told fails c

-- bytes that are no operation are malformed, and change no cell
abbrev pub tells_bytes : Limits → List ℕ → Option Op → Told
tells_bytes l c (some p) = tells_op c (run l p c)
tells_bytes l c none = told malformed c

unfoldable pub tells : Limits → ℕ → List ℕ → List ℕ → Told
tells l width s c = tells_bytes l c (operation_of l width s)
