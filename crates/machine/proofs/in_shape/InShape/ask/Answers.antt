use Rattle.machine.proofs.Queueing.{sound_at}
use Rattle.machine.proofs.GoodShape.{good}
use Rattle.operation.specs.Limits.{limits}
use native.Mathlib.Omega.{arith}
use Rattle.machine.proofs.in_shape.InShape.ask.Goals as goal

pub offset_bounds-self-j : goal.offset_bounds-self-j
offset_bounds-self-j c = omega (arith, (good limits c.args.self.now.machine c.args.self.now.in_shape).queue_most)

pub bounds-self-j : goal.bounds-self-j
bounds-self-j c = omega (arith, (good limits c.args.self.now.machine c.args.self.now.in_shape).queue_most)

pub op-requires : goal.op-requires
op-requires c =
    let m = c.args.self.now in
    (sound_at limits m.machine (good limits m.machine m.in_shape) c.args.j (omega arith)).fits

pub lay-requires : goal.lay-requires
lay-requires c =
    let m = c.args.self.now in
    let s = (sound_at limits m.machine (good limits m.machine m.in_shape) c.args.j (omega arith)).fits in
    omega (arith, s, c.op.ensures.len)

pub overflow_add-result : goal.overflow_add-result
overflow_add-result c = let g = good limits c.args.self.now.machine c.args.self.now.in_shape in
    let q = g.queue_is in
    let i = g.issued_most in
    omega arith
