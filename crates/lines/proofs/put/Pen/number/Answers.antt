use Rattle.lines.proofs.Laying.{lays_decimal}
use Rattle.lines.proofs.put.Pen.number.Goals as goal

pub returns-clause-lays : goal.returns-clause-lays
returns-clause-lays c = lays_decimal _ _ _ c.decimal-k.ensures.len c.decimal-k.ensures.digits c.bytes.ensures.lays
