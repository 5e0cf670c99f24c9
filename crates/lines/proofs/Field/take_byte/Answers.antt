use native.Mathlib.Omega.{arith}
use Rattle.lines.specs.Steps.{go_on, StepKept}
use Rattle.lines.proofs.Stepping.{key_on, key_off, ends, first_low, low_byte, high_byte}
use Rattle.lines.proofs.Field.take_byte.Goals as goal

pub returns-then-b-self : goal.returns-then-b-self
unfolding go_on StepKept
returns-then-b-self c = record {
  goes = λ t. key_on _ _ _ t (omega arith) (omega arith);
  kept = record { range = c.requires.range; far = omega arith; most = c.requires.most };
}

pub returns-then-seen-self : goal.returns-then-seen-self
unfolding go_on StepKept
returns-then-seen-self c = record {
  goes = λ t. key_off _ _ _ t (omega arith) (omega arith);
  kept = tt;
}

pub returns-then-self-seen : goal.returns-then-self-seen
unfolding go_on StepKept
returns-then-self-seen c = record {
  goes = λ t. ends _ _ _ t (omega arith) (omega arith);
  kept = c.requires.most;
}

pub returns-then-b-self-2 : goal.returns-then-b-self-2
unfolding go_on StepKept
returns-then-b-self-2 c = record {
  goes = λ t. first_low _ _ _ t (omega arith) (omega arith);
  kept = tt;
}

pub returns-in_default : goal.returns-in_default
unfolding go_on StepKept
returns-in_default c = record {
  goes = λ t. low_byte _ _ _ t (omega arith) (omega arith) (omega arith);
  kept = tt;
}

pub returns-in_default-2 : goal.returns-in_default-2
unfolding go_on StepKept
returns-in_default-2 c = record {
  goes = λ t. high_byte _ _ _ t (omega arith) (omega arith) c.requires.range.low_most (omega arith);
  kept = tt;
}
