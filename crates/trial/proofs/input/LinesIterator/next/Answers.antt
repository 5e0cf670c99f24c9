use native.Mathlib.Omega.{arith}
use lib.ListN.{length}
use mathlib.Core.Path.{sym, ap}
use borrow.Author.Tests.{eqb-true, eqb-false}
use borrow.Author.Rules.{rules}
use Rattle.trial.proofs.Splitting.{nothing, next_line}
use Rattle.trial.proofs.input.LinesIterator.next.Goals as goal

pub returns-then-is_empty-clause-steps : goal.returns-then-is_empty-clause-steps
returns-then-is_empty-clause-steps c = let none = nothing _ (eqb-true _ _ (sym c.if-is_empty.ensures)) in (none, none)

pub returns-clause-steps : goal.returns-clause-steps
returns-clause-steps c =
    let some = eqb-false _ _ (sym c.if-is_empty.ensures) in
    next_line _ _ _ _ _ c.split_at.ensures.front c.split_at.ensures.back c.min.ensures (omega arith) (omega arith)
    (λ k h. c.line_end.ensures.before k (omega arith) h) c.line_end.ensures.found

pub returns-clause-goes : goal.returns-clause-goes
returns-clause-goes c =
    let e = returns-clause-steps c in
    record { on = λ _. search (rules, ap length e); keeps = search rules; rests = λ _. search rules }
