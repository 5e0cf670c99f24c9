use Rattle.machine.proofs.Keeping.{copy_leaves}
use Rattle.machine.proofs.Copying.{copy_facts}
use Rattle.machine.proofs.Queueing.{ready_rest}
use Rattle.machine.proofs.GoodShape.{good}
use Rattle.machine.specs.Copying.{copy_known}
use Rattle.machine.specs.Telling.{copy_told}
use Rattle.std.proofs.Common.{Ok, ◌-◌}
use Rattle.operation.specs.Limits.{limits}
use native.Mathlib.Omega.{arith}
use borrow.Author.Rules.{rules}
use Rattle.machine.proofs.in_shape.InShape.take_copy.Goals as goal

pub cells_of-requires : goal.cells_of-requires
cells_of-requires c = let m = c.args.self.now in
    let w = (copy_facts limits m.machine c.args.position c.args.cells.now c.args.decided c.requires).1 in
    omega (arith, (good limits m.machine m.in_shape).sizes.width_most)

pub copy-requires : goal.copy-requires
copy-requires c = let m = c.args.self.now in
    let g = good limits m.machine m.in_shape in
    let q = g.queue_is in
    let h = g.heard in
    let i = g.issued_most in
    let w = g.queue_most in
    record {
      most = omega arith;
      there = omega arith;
      decided = omega arith;
      unheard = omega arith;
      rest = ready_rest limits m.machine g _ (omega arith);
    }

pub invariant_of-self : goal.invariant_of-self
unfolding copy_known
invariant_of-self c = let r = c.args in record {
  in_shape =
      copy_leaves limits r.self.now.machine r.position r.cells.now r.decided (search rules) r.self.now.in_shape
      c.requires (copy_told (Ok (r.decided - r.self.now.machine.done)) c.copy.new.self) (search rules);
}
