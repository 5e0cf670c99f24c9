use Rattle.lines.specs.Hex.{hex_digit}
use borrow.Author.Tests.{lt-ltb, le-ltb}
use native.Mathlib.Omega.{arith}
use Rattle.lines.proofs.put.glyph.Goals as goal

pub returns-then-d-lt10 : goal.returns-then-d-lt10
unfolding hex_digit
returns-then-d-lt10 c = rw (lt-ltb _ _ c.if-d-lt10.true)

pub returns-else-d-lt10 : goal.returns-else-d-lt10
unfolding hex_digit
returns-else-d-lt10 c = rw (le-ltb _ _ c.if-d-lt10.false) (omega arith)
