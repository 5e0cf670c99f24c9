use Rattle.std.proofs.Common.{arith, sym, ap, ◌∙◌, map}
use Rattle.std.proofs.lemmas.List.{length-map, get_or-map}
use Rattle.operation.specs.Limits.{limits}
use Rattle.hubtext.proofs.WrittenLines.{numbers_none, numbers_next}
use Rattle.hubtext.proofs.lay.number_lines.Goals as goal

pub loop-n-init : goal.loop-n-init
loop-n-init g c = (omega arith, numbers_none limits _ c.args.key.now)

pub loop-n-preserved : goal.loop-n-preserved
loop-n-preserved g c = (
  omega (arith, c.field.ensures.upper_bound, c.requires.key),
  numbers_next limits c.args.key.now (map g.T.Count.value c.args.numbers.now) c.loop-n.n-index _
      (rw length-map (omega arith))
      (c.wide.ensures ∙
      (ap g.T.Count.value c.n-item.is ∙ sym (get_or-map g.T.Count.value c.args.numbers.now _ c.n-item.result 0 (omega arith))))
      c.loop-n.invariant.1 c.field.ensures.lays,
)
