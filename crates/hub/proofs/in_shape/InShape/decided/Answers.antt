use Rattle.operation.specs.Limits.{limits}
use Rattle.hub.proofs.GoodShape.{good}
use Rattle.hub.proofs.in_shape.InShape.decided.Goals as goal

pub total-requires : goal.total-requires
total-requires c = (good limits c.args.self.now.hub c.args.self.now.in_shape).next
