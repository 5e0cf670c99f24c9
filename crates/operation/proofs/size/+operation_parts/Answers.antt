use mathlib.Core.Path.{sym, ap, ◌∙◌}
use native.Mathlib.Omega.{arith}
use Rattle.std.specs.Prelude.{Some, None}
use Rattle.operation.specs.Limits.{limits}
use Rattle.operation.proofs.Sizes.{size_one, size_atomic, size_orelse, sizes_more}
use Rattle.operation.proofs.size.+operation_parts.Goals as goal

pub operation-returns-in_err-parts-in-Atomic : goal.operation-returns-in_err-parts-in-Atomic
operation-returns-in_err-parts-in-Atomic t c = c.from_residual-in_err-parts-in-Atomic.ensures ∙
    size_atomic limits _ _ _ (omega arith) c.in-Atomic.n _ None
    (ap Some (sym c.in-Atomic.is) ∙ c.in_ok-p.ensures)
    c.after.ensures c.in_err-parts-in-Atomic.ensures

pub operation-returns-in_err-parts-in-Orelse : goal.operation-returns-in_err-parts-in-Orelse
operation-returns-in_err-parts-in-Orelse t c = c.from_residual-in_err-parts-in-Orelse.ensures ∙
    size_orelse limits _ _ _ (omega arith) _ None
    (ap Some (sym c.in-Orelse.is) ∙ c.in_ok-p.ensures)
    c.after-in-Orelse.ensures c.in_err-parts-in-Orelse.ensures

pub operation-returns-in-One : goal.operation-returns-in-One
operation-returns-in-One t c =
    size_one limits _ _ _ (omega arith) c.in-One.p _
    (ap Some (sym c.in-One.is) ∙ c.in_ok-p.ensures) c.size.ensures

pub operation-returns-in_ok-parts-in-Atomic : goal.operation-returns-in_ok-parts-in-Atomic
operation-returns-in_ok-parts-in-Atomic t c =
    size_atomic limits _ _ _ (omega arith) c.in-Atomic.n _ (Some _)
    (ap Some (sym c.in-Atomic.is) ∙ c.in_ok-p.ensures)
    c.after.ensures c.in_ok-parts-in-Atomic.ensures

pub operation-returns-in_ok-parts-in-Orelse : goal.operation-returns-in_ok-parts-in-Orelse
operation-returns-in_ok-parts-in-Orelse t c =
    size_orelse limits _ _ _ (omega arith) _ (Some _)
    (ap Some (sym c.in-Orelse.is) ∙ c.in_ok-p.ensures)
    c.after-in-Orelse.ensures c.in_ok-parts-in-Orelse.ensures

pub parts-returns-in_err-parts : goal.parts-returns-in_err-parts
parts-returns-in_err-parts t c = c.from_residual-in_err-parts.ensures ∙
    sizes_more _ _ _ (omega arith) c.in_ok-first.first _ None
    c.in_ok-first.ensures c.after.ensures c.in_err-parts.ensures

pub parts-returns : goal.parts-returns
parts-returns t c =
    sizes_more _ _ _ (omega arith) c.in_ok-first.first _ (Some _)
    c.in_ok-first.ensures c.after.ensures c.in_ok-parts.ensures
