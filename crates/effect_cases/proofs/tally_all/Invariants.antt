use Rattle.std.proofs.Common.{length, ◌+◌, ◌≤◌}
use Rattle.trial.specs.Split.{lines_of}
use Rattle.effect_cases.proofs.tally_all.Given as goal

-- there are no more lines than bytes
abbrev pub invariant-loop-line : goal.invariant-loop-line
invariant-loop-line g l =
    (goal.iterator-loop-line g).can_next l.line-iterator ×
    (goal.iterator-loop-line g).is_finite l.line-iterator ×
    (l.agree ≤ l.lines) ×
    (l.lines + length (lines_of l.line-iterator.0.now) ≤ length l.text)
