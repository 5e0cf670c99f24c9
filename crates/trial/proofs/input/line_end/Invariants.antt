use Rattle.std.proofs.Common.{ℕ, length, get_or, ◌≡◌, ◌+◌, ◌<◌, ◌≤◌}
use Rattle.trial.proofs.input.line_end.Given as goal

-- no end of line before the place
abbrev pub invariant-loop-end : goal.invariant-loop-end
invariant-loop-end l =
    (goal.iterator-loop-end).can_next l.end-iterator ×
    (goal.iterator-loop-end).is_finite l.end-iterator ×
    ((k : ℕ) → l.at ≤ k → k < l.at + length l.yielded → get_or l.text k 0 ≡ 10 → ⊥)
