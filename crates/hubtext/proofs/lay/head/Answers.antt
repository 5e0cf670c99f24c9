use Rattle.operation.specs.Limits.{limits}
use Rattle.hubtext.proofs.WrittenLines.{head_lines}
use Rattle.hubtext.proofs.lay.head.Goals as goal

pub returns-clause-lays : goal.returns-clause-lays
returns-clause-lays c = head_lines limits _ _ c.field.ensures.lays c.field-2.ensures.lays c.field-3.ensures.lays
