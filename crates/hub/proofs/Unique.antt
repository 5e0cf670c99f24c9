-- What a call tells leaves one result and one hub: two results that tell the same are the same. Assumes nothing.
use Rattle.std.proofs.Common.{◌≡◌, refl, sym, ap, Bool, true, false, Result, Ok, Err, arith}
use Rattle.basics.specs.declared.Refusal.{Refusal}
use Rattle.basics.specs.declared.Refusal.TheVariants.{BadStart}
use Rattle.basics.proofs.Refusals.{one_number, not_done}
use Rattle.effect.specs.Running.{bit}
use Rattle.state.specs.declared.start.RefusedStart.{RefusedStart}
use Rattle.hub.specs.declared.Hub.{Hub}
use Rattle.hub.specs.declared.Submitted.{Submitted}
use Rattle.hub.specs.declared.Fetched.{Fetched}
use Rattle.hub.specs.declared.Copied.{Copied}
use Rattle.hub.specs.Telling.{fresh_told, submit_told, fetch_told, copy_told}

pub fresh_told_one : (r q : Result Hub (RefusedStart Hub)) → fresh_told r ≡ fresh_told q → r ≡ q
fresh_told_one (Ok h) (Ok k) e = ap Ok (ap (λ t. t.hub) e)
fresh_told_one (Ok h) (Err b) e = absurd (not_done BadStart (sym (ap (λ t. t.answer) e)))
fresh_told_one (Err b) (Ok h) e = absurd (not_done BadStart (ap (λ t. t.answer) e))
fresh_told_one (Err b) (Err d) e = ap Err (λ i. record { zero = (e i).hub })

one_bit : (a b : Bool) → bit a ≡ bit b → a ≡ b
one_bit true true e = refl
one_bit true false e = absurd (omega (arith, e))
one_bit false true e = absurd (omega (arith, e))
one_bit false false e = refl

pub submit_told_one :
    (r q : Result Submitted Refusal) (h k : Hub) → submit_told r h ≡ submit_told q k → (r ≡ q) × (h ≡ k)
submit_told_one (Ok s) (Ok t) h k e = (
  ap Ok (λ i. record { succeeded = one_bit s.succeeded t.succeeded (ap (λ x. x.outcome) e) i; number = (e i).number }),
  ap (λ x. x.hub) e,
)
submit_told_one (Ok s) (Err b) h k e = absurd (not_done b (sym (ap (λ x. x.answer) e)))
submit_told_one (Err a) (Ok t) h k e = absurd (not_done a (ap (λ x. x.answer) e))
submit_told_one (Err a) (Err b) h k e = (ap Err (one_number a b (ap (λ x. x.answer) e)), ap (λ x. x.hub) e)

pub fetch_told_one : (r q : Result Fetched Refusal) → fetch_told r ≡ fetch_told q → r ≡ q
fetch_told_one (Ok f) (Ok g) e = ap Ok (λ i. record { machine = (e i).machine; number = (e i).number; len = (e i).len })
fetch_told_one (Ok f) (Err b) e = absurd (not_done b (sym (ap (λ x. x.answer) e)))
fetch_told_one (Err a) (Ok g) e = absurd (not_done a (ap (λ x. x.answer) e))
fetch_told_one (Err a) (Err b) e = ap Err (one_number a b (ap (λ x. x.answer) e))

pub copy_told_one : (r q : Result Copied Refusal) → copy_told r ≡ copy_told q → r ≡ q
copy_told_one (Ok c) (Ok d) e = ap Ok (λ i. record { position = (e i).position; decided = (e i).decided })
copy_told_one (Ok c) (Err b) e = absurd (not_done b (sym (ap (λ x. x.answer) e)))
copy_told_one (Err a) (Ok d) e = absurd (not_done a (ap (λ x. x.answer) e))
copy_told_one (Err a) (Err b) e = ap Err (one_number a b (ap (λ x. x.answer) e))
