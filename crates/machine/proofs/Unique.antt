-- What a call tells leaves one result and one machine: two results that tell the same are the same. Assumes nothing.
use Rattle.std.proofs.Common.{◌≡◌, refl, sym, ap, ◌∙◌, ℕ, List, [], ◌∷◌, get_or, Result, Ok, Err}
use Rattle.basics.specs.Refusals.{answer_number}
use Rattle.basics.specs.declared.Refusal.{Refusal}
use Rattle.basics.specs.declared.Refusal.TheVariants.{BadStart}
use Rattle.basics.proofs.Refusals.{one_number, not_done, same_answer}
use Rattle.state.specs.declared.start.RefusedStart.{RefusedStart}
use Rattle.machine.specs.declared.Heard.{Heard}
use Rattle.machine.specs.declared.Heard.TheVariants.{Lost, Kept, Another}
use Rattle.machine.specs.declared.Machine.{Machine}
use Rattle.machine.specs.declared.Sale.{Sale}
use Rattle.machine.specs.Telling.{
  value_of,
  heard_number,
  outcome_of,
  fresh_told,
  issue_told,
  note_told,
  ask_told,
  record_told,
  copy_told,
}

pub fresh_told_one : (r q : Result Machine (RefusedStart Machine)) → fresh_told r ≡ fresh_told q → r ≡ q
fresh_told_one (Ok m) (Ok n) e = ap Ok (ap (λ t. t.machine) e)
fresh_told_one (Ok m) (Err b) e = absurd (not_done BadStart (sym (ap (λ t. t.answer) e)))
fresh_told_one (Err b) (Ok m) e = absurd (not_done BadStart (ap (λ t. t.answer) e))
fresh_told_one (Err b) (Err d) e = ap Err (λ i. record { zero = (e i).machine })

-- one answer and one value are one result
one_value :
    (r q : Result ℕ Refusal) → answer_number r ≡ answer_number q → value_of r ≡ value_of q → r ≡ q
one_value r q e v = same_answer r q e (λ x y a b. sym (ap value_of a) ∙ (v ∙ ap value_of b))

pub issue_told_one :
    (r q : Result ℕ Refusal) (m n : Machine) → issue_told r m ≡ issue_told q n → (r ≡ q) × (m ≡ n)
issue_told_one r q m n e = (one_value r q (ap (λ t. t.answer) e) (ap (λ t. t.number) e), ap (λ t. t.machine) e)

pub note_told_one :
    (r q : Result ℕ Refusal) (m n : Machine) → note_told r m ≡ note_told q n → (r ≡ q) × (m ≡ n)
note_told_one r q m n e = (one_value r q (ap (λ t. t.answer) e) (ap (λ t. t.count) e), ap (λ t. t.machine) e)

pub copy_told_one :
    (r q : Result ℕ Refusal) (m n : Machine) → copy_told r m ≡ copy_told q n → (r ≡ q) × (m ≡ n)
copy_told_one r q m n e = (one_value r q (ap (λ t. t.answer) e) (ap (λ t. t.left) e), ap (λ t. t.machine) e)

pub ask_told_one : (r q : Result Sale Refusal) → ask_told r ≡ ask_told q → r ≡ q
ask_told_one (Ok s) (Ok t) e = ap Ok (λ i. record { number = (e i).number; len = (e i).len })
ask_told_one (Ok s) (Err b) e = absurd (not_done b (sym (ap (λ t. t.answer) e)))
ask_told_one (Err a) (Ok t) e = absurd (not_done a (ap (λ t. t.answer) e))
ask_told_one (Err a) (Err b) e = ap Err (one_number a b (ap (λ t. t.answer) e))

-- what was heard stands where its number says
heard_in_place : (h : Heard) → get_or (Lost ∷ Kept ∷ Another ∷ []) (heard_number h) Lost ≡ h
heard_in_place Lost = refl
heard_in_place Kept = refl
heard_in_place Another = refl

one_heard : (h k : Heard) → heard_number h ≡ heard_number k → h ≡ k
one_heard h k e =
    sym (heard_in_place h) ∙ (ap (λ n. get_or (Lost ∷ Kept ∷ Another ∷ []) n Lost) e ∙ heard_in_place k)

pub record_told_one :
    (r q : Result Heard Refusal) (m n : Machine) → record_told r m ≡ record_told q n → (r ≡ q) × (m ≡ n)
record_told_one r q m n e = (
  same_answer r q (ap (λ t. t.answer) e)
      (λ h k a b. one_heard h k (sym (ap outcome_of a) ∙ (ap (λ t. t.outcome) e ∙ ap outcome_of b))),
  ap (λ t. t.machine) e,
)
