use Rattle.std.proofs.Common.{arith}
use Rattle.operation.specs.Limits.{limits}
use Rattle.hub.proofs.GoodShape.{good}
use Rattle.hub.proofs.in_shape.InShape.copy.Goals as goal

pub shared_ref_as_front-lay : goal.shared_ref_as_front-lay
shared_ref_as_front-lay c = (good limits c.args.self.now.hub c.args.self.now.in_shape).sizes.width_most

pub offset_bounds-self-machine : goal.offset_bounds-self-machine
offset_bounds-self-machine c =
    omega (arith, (good limits c.args.self.now.hub c.args.self.now.in_shape).sizes.machines_most)

pub bounds-self-machine : goal.bounds-self-machine
bounds-self-machine c =
    omega (arith, (good limits c.args.self.now.hub c.args.self.now.in_shape).sizes.machines_most)
