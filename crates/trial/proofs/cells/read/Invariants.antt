use Rattle.std.proofs.Common.{◌≤◌}
use Rattle.trial.proofs.cells.read.Given as goal

abbrev pub invariant-loop-i : goal.invariant-loop-i
invariant-loop-i l = l.width ≤ 64
