use Rattle.effect.proofs.Outcomes.{walked}
use Rattle.operation.specs.Limits.{limits}
use Rattle.effect.proofs.run_known.Goals as goal

pub returns : goal.returns
returns c =
    let a = c.args in
    walked limits a.width a.s.now a.cells.now c.requires _ c.operation.ensures
