use native.Mathlib.Omega.{arith}
use Rattle.std.proofs.Common.{inl, inr}
use Rattle.lines.specs.Steps.{go_on, StepKept}
use Rattle.lines.proofs.Stepping.{first_low, first_over, first_on, more_zero, more_over, more_on}
use Rattle.lines.proofs.Field.digit.Goals as goal

pub returns-then-d-from : goal.returns-then-d-from
unfolding go_on StepKept
returns-then-d-from c = record {
  goes = λ t. elim c.then-d-from.either [
    | inl low ↦ first_low _ _ _ t (omega arith) (omega arith)
    | inr over ↦ first_over _ _ _ t (omega arith) (omega arith) (omega arith) (omega arith)
  ];
  kept = tt;
}

pub returns-then-seen-self : goal.returns-then-seen-self
unfolding go_on StepKept
returns-then-seen-self c = record {
  goes = λ t. rw c.from-d.ensures (first_on _ _ _ t (omega arith) (omega arith) (omega arith) (omega arith));
  kept = record { range = c.requires.kept.range; far = omega arith; most = omega arith };
}

pub returns-then-value-eq0 : goal.returns-then-value-eq0
unfolding go_on StepKept
returns-then-value-eq0 c = record {
  goes = λ t. more_zero _ _ _ t (omega arith) (λ e. omega (arith, e, c.requires.kept.range.end_most, c.requires.least)) (omega arith)
      (omega arith) (omega arith);
  kept = tt;
}

pub returns-then-self-next : goal.returns-then-self-next
unfolding go_on StepKept
returns-then-self-next c = record {
  goes = λ t. more_over _ _ _ t (omega arith) (λ e. omega (arith, e, c.requires.kept.range.end_most, c.requires.least)) (omega arith)
      (omega arith)
      (omega arith) (omega arith);
  kept = tt;
}

pub returns : goal.returns
unfolding go_on StepKept
returns c = record {
  goes = λ t. rw c.from-d.ensures (more_on _ _ _ t (omega arith) (λ e. omega (arith, e, c.requires.kept.range.end_most, c.requires.least)) (omega arith)
      (omega arith)
      (omega arith) (omega arith));
  kept = record { range = c.requires.kept.range; far = omega arith; most = omega arith };
}
