use native.Mathlib.Omega.{arith}
use Rattle.lines.proofs.Laying.{hex_none, hex_next}
use Rattle.lines.proofs.put.Pen.hex.Goals as goal

pub loop-b-init : goal.loop-b-init
loop-b-init c = (omega arith, hex_none _)

pub loop-b-preserved : goal.loop-b-preserved
loop-b-preserved c = (
  omega (arith, c.pair.ensures.value),
  hex_next c.loop-b.b-index c.args.src.now (omega arith) c.loop-b.invariant.1 c.pair.ensures.lays,
)
