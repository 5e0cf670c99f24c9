use native.Mathlib.Omega.{arith}
use Rattle.operation.specs.Limits.{limits}
use mathlib.Core.Path.{◌≡◌, ap, sym, subst}
use Prim.Native.Nat.{◌+◌, ◌-◌, ◌≤◌}
use lib.ListN.{get_or}
use Rattle.std.specs.Prelude.{◌%◌}
use Rattle.hub.specs.Ring.{no_record}
use Rattle.hub.specs.declared.Record.{Record}
use Rattle.hubtext.proofs.WrittenLines.{entries_none, entries_next}
use Rattle.hubtext.proofs.lay.record_lines.Goals as goal

pub loop-n-init : goal.loop-n-init
loop-n-init c = let none : c.args.first - c.args.first ≡ 0 = omega arith in
    (omega arith, rw none (entries_none limits _ _ _))

pub record_line-requires : goal.record_line-requires
record_line-requires c =
    let i = c.loop-n.n - c.args.first in
    let here : c.args.first + i ≡ c.loop-n.n = omega arith in
    let there : c.slot.result ≡ (c.args.first + i) % 256 = rw here c.slot.ensures in
    let q = ap (λ x. get_or c.args.records.now x no_record) there in
    (omega arith, subst (λ (r : Record). r.op.len ≤ 48) (sym q) (c.requires.1.1.1 i (omega arith)))

pub loop-n-preserved : goal.loop-n-preserved
loop-n-preserved c =
    let i = c.loop-n.n - c.args.first in
    let here : c.args.first + i ≡ c.loop-n.n = omega arith in
    let there : c.slot.result ≡ (c.args.first + i) % 256 = rw here c.slot.ensures in
    let next : c.loop-n.n + 1 - c.args.first ≡ i + 1 = omega arith in (
      omega (arith, c.record_line.ensures.upper_bound),
      rw next
          (entries_next limits c.args.records.now c.args.first i _
          (ap (λ x. get_or c.args.records.now x no_record) there) c.loop-n.invariant.1 c.record_line.ensures.lays),
    )
