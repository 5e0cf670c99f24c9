-- What each call tells, in the paper's numbers: its answer is 0 where it is done, and else that of the refusal. Assumes
-- nothing: these are definitions.
use Rattle.std.specs.Prelude.{ℕ, Result, Ok, Err}
use Rattle.basics.specs.Refusals.{number_of}
use Rattle.basics.specs.declared.Refusal.{Refusal}
use Rattle.basics.specs.declared.Refusal.TheVariants.{BadStart}
use Rattle.effect.specs.Running.{bit}
use Rattle.state.specs.declared.start.RefusedStart.{RefusedStart}
use Rattle.hub.specs.declared.Hub.{Hub}
use Rattle.hub.specs.declared.Submitted.{Submitted as SubmittedOne}
use Rattle.hub.specs.declared.Fetched.{Fetched as FetchedOne}
use Rattle.hub.specs.declared.Copied.{Copied as CopiedOne}

-- a start that is refused hands out the all-zero state
pub record Made : Type 0 where
  pub answer : ℕ
  pub hub : Hub

abbrev pub fresh_told : Result Hub (RefusedStart Hub) → Made
fresh_told (Ok h) = record { answer = 0; hub = h }
fresh_told (Err e) = record { answer = number_of BadStart; hub = e.zero }

-- the outcome, 1 or 0, the number of the record, and the hub after it
pub record Submitted : Type 0 where
  pub answer : ℕ
  pub outcome : ℕ
  pub number : ℕ
  pub hub : Hub

abbrev pub submit_told : Result SubmittedOne Refusal → Hub → Submitted
submit_told (Ok s) h = record { answer = 0; outcome = bit s.succeeded; number = s.number; hub = h }
submit_told (Err r) h = record { answer = number_of r; outcome = 0; number = 0; hub = h }

-- whose operation it was, its number there and its length
pub record Fetched : Type 0 where
  pub answer : ℕ
  pub machine : ℕ
  pub number : ℕ
  pub len : ℕ

abbrev pub fetch_told : Result FetchedOne Refusal → Fetched
fetch_told (Ok f) = record { answer = 0; machine = f.machine; number = f.number; len = f.len }
fetch_told (Err r) = record { answer = number_of r; machine = 0; number = 0; len = 0 }

-- the hub's position, and how many operations of the machine it has decided
pub record Copied : Type 0 where
  pub answer : ℕ
  pub position : ℕ
  pub decided : ℕ

abbrev pub copy_told : Result CopiedOne Refusal → Copied
copy_told (Ok c) = record { answer = 0; position = c.position; decided = c.decided }
copy_told (Err r) = record { answer = number_of r; position = 0; decided = 0 }
