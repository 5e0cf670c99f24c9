use Rattle.std.proofs.Common.{arith, ap, get_or}
use Rattle.operation.specs.Limits.{limits}
use Rattle.hub.specs.Ring.{no_record}
use Rattle.hub.proofs.GoodShape.{good, kept_short}
use Rattle.hub.proofs.in_shape.InShape.fetch.Goals as goal

pub op-requires : goal.op-requires
op-requires c =
    let h = c.args.self.now.hub in
    kept_short limits h (good limits h c.args.self.now.in_shape) c.args.n _ (omega arith)
    (ap (λ x. get_or h.records x no_record) c.slot.ensures)

pub lay-requires : goal.lay-requires
lay-requires c =
    let h = c.args.self.now.hub in
    let short =
    kept_short limits h (good limits h c.args.self.now.in_shape) c.args.n _ (omega arith)
    (ap (λ x. get_or h.records x no_record) c.slot.ensures) in
    omega (arith, short, c.op.ensures.len)
