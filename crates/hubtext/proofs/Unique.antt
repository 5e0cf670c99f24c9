-- What writing tells leaves one result. Assumes nothing.
use Rattle.std.proofs.Common.{◌≡◌, sym, ap, ℕ, Result, Ok, Err}
use Rattle.basics.specs.declared.Refusal.{Refusal}
use Rattle.basics.proofs.Refusals.{one_number, not_done}
use Rattle.hubtext.specs.Saving.{write_told}

pub write_told_one : (r q : Result ℕ Refusal) → write_told r ≡ write_told q → r ≡ q
write_told_one (Ok n) (Ok k) e = ap Ok (ap (λ t. t.len) e)
write_told_one (Ok n) (Err b) e = absurd (not_done b (sym (ap (λ t. t.answer) e)))
write_told_one (Err a) (Ok k) e = absurd (not_done a (ap (λ t. t.answer) e))
write_told_one (Err a) (Err b) e = ap Err (one_number a b (ap (λ t. t.answer) e))
