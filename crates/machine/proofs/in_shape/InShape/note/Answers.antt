use Rattle.machine.proofs.Keeping.{note_leaves}
use Rattle.machine.proofs.GoodShape.{good}
use Rattle.machine.specs.Noting.{note_known}
use Rattle.machine.specs.Telling.{note_told}
use Rattle.std.proofs.Common.{Ok}
use Rattle.operation.specs.Limits.{limits}
use native.Mathlib.Omega.{arith}
use borrow.Author.Rules.{rules}
use Rattle.machine.proofs.in_shape.InShape.note.Goals as goal

pub write-requires : goal.write-requires
write-requires c = let g = (good limits c.args.self.now.machine c.args.self.now.in_shape).sizes.width_most in
    (omega arith, omega arith)

pub invariant_of-self : goal.invariant_of-self
unfolding note_known
invariant_of-self c = record {
  in_shape =
      note_leaves limits c.args.self.now.machine c.args.k c.args.cell c.args.self.now.in_shape
      (note_told (Ok c.write.result) c.write.new.self) (search rules);
}
