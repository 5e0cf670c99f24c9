use Rattle.operation.specs.Limits.{limits}
use Rattle.hubtext.specs.Writing.{entry_of}
use Rattle.hubtext.proofs.WrittenLines.{record_line}
use Rattle.hubtext.proofs.lay.record_line.Goals as goal

pub returns-clause-lays : goal.returns-clause-lays
returns-clause-lays c = record_line limits (entry_of c.args.r.now) (rw c.from.ensures at c.field.ensures.lays)
    (rw c.op.ensures.value at c.hex.ensures.lays) c.byte.ensures.lays
