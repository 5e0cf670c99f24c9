use Rattle.machine.proofs.Keeping.{issue_leaves}
use Rattle.machine.specs.Issuing.{issue_known}
use Rattle.machine.specs.Telling.{issue_told}
use Rattle.operation.proofs.WellFormed.{formed, op_of}
use Rattle.std.proofs.Common.{Ok}
use Rattle.operation.specs.Limits.{limits}
use borrow.Author.Rules.{rules}
use Rattle.machine.proofs.in_shape.InShape.issue.Goals as goal

pub sell-requires : goal.sell-requires
sell-requires c = let p = op_of limits c.args.self.now.machine.width c.args.op.now c.requires in
    (search rules, (search rules, (formed limits c.args.self.now.machine.width c.args.op.now p.0 p.1).bytes))

pub invariant_of-self : goal.invariant_of-self
unfolding issue_known
invariant_of-self c = record {
  in_shape =
      issue_leaves limits c.args.self.now.machine c.args.op.now (search rules) c.args.self.now.in_shape c.requires
      (issue_told (Ok c.sell.result) c.sell.new.self) (search rules);
}
