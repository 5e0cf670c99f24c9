use Rattle.lines.proofs.Passing.{Inner}
use Rattle.lines.proofs.Cursor.field.Given as goal

abbrev pub invariant-loop-i : goal.invariant-loop-i
invariant-loop-i l = Inner l.rest l.f l.i l.so_far
