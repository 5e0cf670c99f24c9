use Rattle.std.proofs.Common.{rules, ◌≡◌, ◌∙◌, ◌<◌, ◌^◌, arith}
use Rattle.std.specs.Prelude.{sum}
use Rattle.hub.proofs.Totals.{sum_total, total_most}
use Rattle.hub.proofs.ring.total.Goals as goal

pub sum-requires-clause-fits : goal.sum-requires-clause-fits
sum-requires-clause-fits c =
    let e = sum_total c.args.next.now c.told-next in
    let m = total_most c.args.next.now c.args.machines c.told-next c.requires in
    let h : sum c.args.next.now < 2 ^ 64 = omega arith in
    search rules

pub returns : goal.returns
returns c =
    let e = sum_total c.args.next.now c.told-next in
    let m = total_most c.args.next.now c.args.machines c.told-next c.requires in
    let h : c.sum.result ≡ sum c.args.next.now = search rules in
    (h ∙ e, omega arith)
