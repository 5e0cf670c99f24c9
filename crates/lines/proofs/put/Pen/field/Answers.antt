use Rattle.lines.proofs.Laying.{lays_field}
use Rattle.lines.proofs.put.Pen.field.Goals as goal

pub returns-clause-lays : goal.returns-clause-lays
returns-clause-lays c = lays_field _ _ _ c.bytes.ensures.lays c.number.ensures.lays c.byte.ensures.lays
