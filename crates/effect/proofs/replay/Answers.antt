use Rattle.operation.specs.Limits.{limits}
use Rattle.effect.proofs.Replaying.{replay_none, replay_more}
use Rattle.effect.proofs.replay.Goals as goal

pub loop-o-init : goal.loop-o-init
loop-o-init c = let a = c.args in replay_none limits a.width a.queue.now a.cells.now

pub loop-o-preserved : goal.loop-o-preserved
loop-o-preserved c =
    replay_more limits c.args.width _ c.args.cells.now c.loop-o.o-index c.loop-o.cells _ _
    c.loop-o-test.true c.loop-o.invariant (rw c.op.ensures.value at c.run_known.ensures)
