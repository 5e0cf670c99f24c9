use Rattle.std.proofs.Common.{rules, arith}
use Rattle.operation.specs.Limits.{limits}
use Rattle.operation.proofs.WellFormed.{formed, op_of}
use Rattle.hub.proofs.GoodShape.{good}
use Rattle.hub.proofs.Keeping.{Sized, submit_taken_leaves}
use Rattle.hub.proofs.in_shape.InShape.submit.Goals as goal

pub offset_bounds-self-machine : goal.offset_bounds-self-machine
offset_bounds-self-machine c =
    omega (arith, (good limits c.args.self.now.hub c.args.self.now.in_shape).sizes.machines_most)

pub bounds-self-machine : goal.bounds-self-machine
bounds-self-machine c =
    omega (arith, (good limits c.args.self.now.hub c.args.self.now.in_shape).sizes.machines_most)

pub take-requires : goal.take-requires
take-requires c =
    let h = c.args.self.now.hub in
    let g = good limits h c.args.self.now.in_shape in
    let p = op_of limits h.width c.args.op.now c.requires.op in
    record {
      machine_most = omega (arith, g.sizes.machines_most);
      number_most = c.requires.number;
      short = (formed limits h.width c.args.op.now p.0 p.1).bytes;
      next = g.next;
    }

pub invariant_of-self : goal.invariant_of-self
invariant_of-self c =
    let a = c.args in
    let sized : Sized a.self.now.hub = record { places = search rules; machines = search rules } in
    record {
      in_shape =
          (submit_taken_leaves limits a.self.now.hub sized a.machine a.op.now a.number a.self.now.in_shape
          c.requires.machine c.requires.number c.requires.op (omega arith) _ _ _ c.is_ok-succeeded.ensures.value
          c.run_known.ensures _ c.take.ensures).1;
    }

pub returns : goal.returns
returns c =
    let a = c.args in
    let sized : Sized a.self.now.hub = record { places = search rules; machines = search rules } in
    (submit_taken_leaves limits a.self.now.hub sized a.machine a.op.now a.number a.self.now.in_shape
    c.requires.machine c.requires.number c.requires.op (omega arith) _ _ _ c.is_ok-succeeded.ensures.value
    c.run_known.ensures _ c.take.ensures).0
