-- What each call tells: the paper's number of its answer, its values, and the machine after it. A refusal has zeros for
-- values. Assumes nothing: these are definitions.
use Rattle.std.specs.Prelude.{ℕ, Result, Ok, Err}
use Rattle.basics.specs.Refusals.{number_of, answer_number}
use Rattle.basics.specs.declared.Refusal.{Refusal}
use Rattle.basics.specs.declared.Refusal.TheVariants.{BadStart}
use Rattle.state.specs.declared.start.RefusedStart.{RefusedStart}
use Rattle.machine.specs.declared.Heard.{Heard}
use Rattle.machine.specs.declared.Heard.TheVariants.{Lost, Kept, Another}
use Rattle.machine.specs.declared.Machine.{Machine}
use Rattle.machine.specs.declared.Sale.{Sale}

pub record Made : Type 0 where
  pub answer : ℕ
  pub machine : Machine

pub record Issued : Type 0 where
  pub answer : ℕ
  pub number : ℕ
  pub machine : Machine

pub record Noted : Type 0 where
  pub answer : ℕ
  pub count : ℕ
  pub machine : Machine

pub record Asked : Type 0 where
  pub answer : ℕ
  pub number : ℕ
  pub len : ℕ

-- the outcome is 1 or 0 of an own record, and 2 of another's
pub record Taken : Type 0 where
  pub answer : ℕ
  pub outcome : ℕ
  pub machine : Machine

-- how many operations left the queue
pub record Copied : Type 0 where
  pub answer : ℕ
  pub left : ℕ
  pub machine : Machine

-- the number that a call answers
abbrev pub value_of : Result ℕ Refusal → ℕ
value_of (Ok n) = n
value_of (Err r) = 0

-- the outcome by the paper's number, and that of a call
abbrev pub heard_number : Heard → ℕ
heard_number Lost = 0
heard_number Kept = 1
heard_number Another = 2

abbrev pub outcome_of : Result Heard Refusal → ℕ
outcome_of (Ok h) = heard_number h
outcome_of (Err r) = 0

-- a bad start hands back the machine that it has
abbrev pub fresh_told : Result Machine (RefusedStart Machine) → Made
fresh_told (Ok m) = record { answer = 0; machine = m }
fresh_told (Err bad) = record { answer = number_of BadStart; machine = bad.zero }

abbrev pub issue_told : Result ℕ Refusal → Machine → Issued
issue_told r m = record { answer = answer_number r; number = value_of r; machine = m }

abbrev pub note_told : Result ℕ Refusal → Machine → Noted
note_told r m = record { answer = answer_number r; count = value_of r; machine = m }

-- asking leaves the machine as it is
abbrev pub ask_told : Result Sale Refusal → Asked
ask_told (Ok s) = record { answer = 0; number = s.number; len = s.len }
ask_told (Err r) = record { answer = number_of r; number = 0; len = 0 }

abbrev pub record_told : Result Heard Refusal → Machine → Taken
record_told r m = record { answer = answer_number r; outcome = outcome_of r; machine = m }

abbrev pub copy_told : Result ℕ Refusal → Machine → Copied
copy_told r m = record { answer = answer_number r; left = value_of r; machine = m }
