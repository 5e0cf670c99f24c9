use Rattle.std.proofs.Common.{arith, rules, refl, ap, ◌≤◌, List, ℕ, length, take, map}
use Rattle.std.proofs.Math.Nat.{min-le_left}
use Rattle.std.proofs.lemmas.List.{length-take, map-id}
use Rattle.operation.specs.Limits.{limits}
use Rattle.lines.proofs.Laying.{lays_end, lays_same}
use Rattle.lines.specs.Texts.{text_of}
use Rattle.hub.proofs.GoodShape.{good, kept_short}
use Rattle.hubtext.specs.Keys.{cell=, next=}
use Rattle.hubtext.specs.Values.{number}
use Rattle.hubtext.specs.Reading.{hub_form}
use Rattle.hubtext.proofs.WrittenLines.{whole_text}
use Rattle.hubtext.proofs.lay.text.Goals as goal

pub shared_ref_as_front-number_lines : goal.shared_ref_as_front-number_lines
shared_ref_as_front-number_lines c = (good limits c.args.h.now.hub c.args.h.now.in_shape).sizes.width_most

pub shared_ref_as_front-number_lines-2 : goal.shared_ref_as_front-number_lines-2
shared_ref_as_front-number_lines-2 c = (good limits c.args.h.now.hub c.args.h.now.in_shape).sizes.machines_most

-- no more are taken than there may be
taken : {A : Type 0} (n most : ℕ) (xs : List A) → n ≤ most → length (take n xs) ≤ most
taken n most xs h = rw length-take (omega (arith, min-le_left n (length xs), h))

pub number_lines-requires : goal.number_lines-requires
number_lines-requires c =
    let h = c.args.h.now in
    let n = taken h.hub.width 64 h.hub.cells (good limits h.hub h.in_shape).sizes.width_most in
    record { key = omega arith; room = omega (arith, n, c.head.ensures.upper_bound) }

pub number_lines-requires-2 : goal.number_lines-requires-2
number_lines-requires-2 c =
    let h = c.args.h.now in
    let n = taken h.hub.width 64 h.hub.cells (good limits h.hub h.in_shape).sizes.width_most in
    let k = taken h.hub.machines 40 h.hub.next (good limits h.hub h.in_shape).sizes.machines_most in
    record {
      key = omega arith;
      room = omega (arith, n, k, c.head.ensures.upper_bound, c.number_lines.ensures.upper_bound);
    }

pub record_lines-requires : goal.record_lines-requires
record_lines-requires c =
    let h = c.args.h.now in
    let g = good limits h.hub h.in_shape in
    let n = taken h.hub.width 64 h.hub.cells g.sizes.width_most in
    let k = taken h.hub.machines 40 h.hub.next g.sizes.machines_most in (
      omega (arith, n, k, c.head.ensures.upper_bound, c.number_lines.ensures.upper_bound, c.number_lines-2.ensures.upper_bound),
      (
        omega (arith, c.kept-kept.ensures),
        (
          omega (arith, c.decided-decided.ensures.1),
          (λ i l. kept_short limits h.hub g _ _ (omega (arith, c.decided-decided.ensures.0, c.kept-kept.ensures, l)) refl),
        ),
      ),
    )

pub returns : goal.returns
returns c =
    let h = c.args.h.now.hub in
    let lines = λ (key xs : List ℕ). ap (λ ys. text_of (hub_form limits) (map (number key) ys)) (map-id xs) in
    let all = whole_text limits h _ _ c.decided-decided.ensures.0 c.kept-kept.ensures c.head.ensures.lays
    (lays_same c.number_lines.ensures.lays (lines cell= (take h.width h.cells)))
    (lays_same c.number_lines-2.ensures.lays (lines next= (take h.machines h.next))) c.record_lines.ensures in
    lays_end all (search rules)
