use Rattle.lines.proofs.Laying.{lays_pair}
use Rattle.lines.proofs.put.Pen.pair.Goals as goal

pub returns-clause-lays : goal.returns-clause-lays
returns-clause-lays c = lays_pair _ (rw c.glyph.ensures at c.byte.ensures.lays) (rw c.glyph-2.ensures at c.byte-2.ensures.lays)
