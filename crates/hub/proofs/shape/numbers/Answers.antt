use Rattle.std.proofs.Common.{rules, arith, ◌≡◌, ◌∙◌, ◌-◌, sym, ap, get_or}
use Rattle.hub.specs.Ring.{no_record}
use Rattle.hub.proofs.Numbering.{numbered_start, numbered_stops, numbered_more, numbered_end, follows_far, follows_not, follows_so}
use Rattle.hub.proofs.shape.numbers.Goals as goal

pub loop-n-init : goal.loop-n-init
loop-n-init c = (c.told-next, numbered_start _ _ _ _ c.requires (omega arith))

pub returns-then-m-ge-MACHINES : goal.returns-then-m-ge-MACHINES
returns-then-m-ge-MACHINES c = let r = get_or c.args.records.now c.slot.result no_record in
    sym
    (sym c.loop-n.invariant.1 ∙ numbered_stops _ _ _ _ r (omega arith)
    (ap (λ x. get_or c.args.records.now x no_record) c.slot.ensures)
    (follows_far c.loop-n.left r _ c.from-m.ensures (omega arith)))

pub returns-then-x-eq0 : goal.returns-then-x-eq0
returns-then-x-eq0 c = let r = get_or c.args.records.now c.slot.result no_record in
    sym
    (sym c.loop-n.invariant.1 ∙ numbered_stops _ _ _ _ r (omega arith)
    (ap (λ x. get_or c.args.records.now x no_record) c.slot.ensures)
    (follows_not c.loop-n.left r _ c.from-m.ensures (λ e. omega (arith, e))))

pub returns-then-r-x : goal.returns-then-r-x
returns-then-r-x c = let r = get_or c.args.records.now c.slot.result no_record in
    sym
    (sym c.loop-n.invariant.1 ∙ numbered_stops _ _ _ _ r (omega arith)
    (ap (λ x. get_or c.args.records.now x no_record) c.slot.ensures)
    (follows_not c.loop-n.left r _ c.from-m.ensures (λ e. c.if-r-x.true (omega (arith, e)))))

pub loop-n-preserved : goal.loop-n-preserved
loop-n-preserved c = let r = get_or c.args.records.now c.slot.result no_record in
    let k = c.loop-n.n - (c.args.decided - c.kept.result) in
    let one_less : c.loop-n.n - 1 - (c.args.decided - c.kept.result) ≡ k - 1 = omega arith in (
      search rules,
      rw one_less
          (numbered_more _ k _ _ r _ (omega arith) (ap (λ x. get_or c.args.records.now x no_record) c.slot.ensures)
          c.from-m.ensures (follows_so c.loop-n.left r _ c.from-m.ensures (omega arith))) ∙ c.loop-n.invariant.1,
    )

pub returns : goal.returns
returns c = numbered_end _ _ _ _ (omega arith) ∙ c.loop-n.invariant.1
