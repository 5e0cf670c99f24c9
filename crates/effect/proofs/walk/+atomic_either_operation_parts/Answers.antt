use mathlib.Core.Path.{refl, sym, ◌∙◌, ap}
use native.Mathlib.Omega.{arith}
use borrow.Author.Rules.{rules}
use Rattle.std.specs.Prelude.{Some}
use Rattle.effect.proofs.Walking.{
  kind_inside,
  run_zero,
  run_malformed,
  run_one,
  run_atomic,
  run_orelse,
  parts_zero,
  parts_none,
  parts_stop,
  parts_more,
  either_none,
  either_first,
  either_second,
}
use Rattle.operation.specs.Limits.{limits}
use Rattle.effect.proofs.walk.+atomic_either_operation_parts.Goals as goal

pub either-returns-then-is_ok : goal.either-returns-then-is_ok
either-returns-then-is_ok t c =
    either_first limits _ _ _ _ c.operation.ensures (sym c.is_ok.ensures.value ∙ c.if-is_ok.true)

pub either-returns-in_err-first : goal.either-returns-in_err-first
either-returns-in_err-first t c =
    either_none limits _ _ _ (sym c.in_err-first.ensures.ok_part ∙ c.operation-2.ensures) _

pub either-returns : goal.either-returns
either-returns t c =
    either_second limits _ _ _ _ c.operation.ensures _ _
    (sym c.in_ok-first.ensures.ok_part ∙ c.operation-2.ensures)
    c.after.ensures _ (sym c.is_ok.ensures.value ∙ c.if-is_ok.false) c.operation-3.ensures

pub operation-returns-then-depth-eq0 : goal.operation-returns-then-depth-eq0
operation-returns-then-depth-eq0 t c = run_zero limits _ _ _ _ _ (omega arith)

pub operation-returns-in_err-p : goal.operation-returns-in_err-p
operation-returns-in_err-p t c =
    run_malformed limits _ _ _ _ _ (omega arith) (sym c.in_err-p.ensures.ok_part ∙ c.read.ensures)

pub operation-apply-requires : goal.operation-apply-requires
operation-apply-requires t c = let r = c in
    kind_inside limits r.args.width limits.cells r.args.s.now _ (omega arith)
    (ap Some (sym c.in-One.is) ∙ (sym c.in_ok-p.ensures.ok_part ∙ c.read.ensures))

pub operation-returns-in-One : goal.operation-returns-in-One
operation-returns-in-One t c =
    run_one limits _ _ _ _ _ (omega arith) _
    (ap Some (sym c.in-One.is) ∙ (sym c.in_ok-p.ensures.ok_part ∙ c.read.ensures))
    c.apply.ensures

pub operation-returns-in-Atomic : goal.operation-returns-in-Atomic
operation-returns-in-Atomic t c =
    run_atomic limits _ _ _ _ _ (omega arith) _ _
    (ap Some (sym c.in-Atomic.is) ∙ (sym c.in_ok-p.ensures.ok_part ∙ c.read.ensures))
    c.after.ensures c.atomic.ensures

pub operation-returns-in-Orelse : goal.operation-returns-in-Orelse
operation-returns-in-Orelse t c =
    run_orelse limits _ _ _ _ _ (omega arith) _
    (ap Some (sym c.in-Orelse.is) ∙ (sym c.in_ok-p.ensures.ok_part ∙ c.read.ensures))
    c.after-in-Orelse.ensures c.either.ensures

pub parts-returns-then-n-eq0 : goal.parts-returns-then-n-eq0
parts-returns-then-n-eq0 t c = parts_zero limits _ _ _ _ (omega arith)

pub parts-returns-in_err-operation : goal.parts-returns-in_err-operation
parts-returns-in_err-operation t c =
    parts_stop limits _ _ _ _ c.in_err-operation.ensures _ _ (omega arith) refl (search rules)

pub parts-returns-in_err-first : goal.parts-returns-in_err-first
parts-returns-in_err-first t c =
    parts_none limits _ _ _ (sym c.in_err-first.ensures.ok_part ∙ c.operation-2.ensures) _ _ (omega arith)

pub parts-returns : goal.parts-returns
parts-returns t c =
    parts_more limits _ _ _ _ c.in_ok-operation.ensures _ _
    (sym c.in_ok-first.ensures.ok_part ∙ c.operation-2.ensures)
    c.after.ensures _ _ (omega arith) refl c.parts.ensures
