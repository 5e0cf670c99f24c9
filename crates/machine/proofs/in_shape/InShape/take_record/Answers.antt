use Rattle.machine.proofs.Keeping.{record_leaves}
use Rattle.machine.proofs.Recording.{as_issued_waits}
use Rattle.machine.proofs.Queueing.{ready}
use Rattle.machine.proofs.GoodShape.{good}
use Rattle.machine.specs.Recording.{record_known}
use Rattle.machine.specs.Telling.{record_told}
use Rattle.std.proofs.Common.{Ok}
use mathlib.Core.Path.{sym, ◌∙◌}
use Rattle.operation.specs.Limits.{limits}
use native.Mathlib.Omega.{arith}
use borrow.Author.Rules.{rules}
use Rattle.machine.proofs.in_shape.InShape.take_record.Goals as goal

pub take_other-requires : goal.take_other-requires
take_other-requires c =
    let g = good limits c.args.self.now.machine c.args.self.now.in_shape in
    (ready limits c.args.self.now.machine g, g.position_most)

pub invariant_of-self : goal.invariant_of-self
unfolding record_known
invariant_of-self c = let r = c.args in record {
  in_shape =
      record_leaves limits r.self.now.machine r.n r.who r.number r.op.now (search rules) r.self.now.in_shape
      c.requires.most (record_told (Ok c.take_other.result) c.take_other.new.self) (search rules);
}

pub take_own-requires : goal.take_own-requires
take_own-requires c =
    let g = good limits c.args.self.now.machine c.args.self.now.in_shape in
    let q = g.queue_is in
    let h = g.heard in
    let i = g.issued_most in
    record {
      waits =
          as_issued_waits c.args.self.now.machine c.args.number c.args.op.now
          (sym c.as_issued.ensures ∙ c.if-not-as_issued.false);
      place = g.position_most;
      decided = omega arith;
      kept = omega arith;
      lost = omega arith;
    }

pub invariant_of-self-2 : goal.invariant_of-self-2
unfolding record_known
invariant_of-self-2 c = let r = c.args in record {
  in_shape =
      record_leaves limits r.self.now.machine r.n r.who r.number r.op.now (search rules) r.self.now.in_shape
      c.requires.most (record_told (Ok c.take_own.result) c.take_own.new.self) (search rules);
}
