-- No two answers share a number. Assumes nothing.
use Rattle.std.proofs.Common.{◌≡◌, refl, sym, ap, ◌∙◌, ◌-◌, ◌≢◌, get_or, arith, Result, Ok, Err}
use Rattle.basics.specs.declared.Refusal.{Refusal}
use Rattle.basics.specs.declared.Refusal.TheVariants.{
  OutOfShape,
  Malformed,
  QueueFull,
  AllIssued,
  FailsOnGuess,
  NoSuchNote,
  NoSuchWaiting,
  BufferTooShort,
  OutOfRange,
  Old,
  Early,
  NotAsIssued,
  BadCopy,
  NotDecided,
  NotKept,
  BadText,
  BadStart,
}
use Rattle.basics.specs.Refusals.{number_of, answer_number, in_order}

-- a refusal stands where its number says
pub in_place : (r : Refusal) → get_or in_order (number_of r - 1) OutOfShape ≡ r
in_place OutOfShape = refl
in_place Malformed = refl
in_place QueueFull = refl
in_place AllIssued = refl
in_place FailsOnGuess = refl
in_place NoSuchNote = refl
in_place NoSuchWaiting = refl
in_place BufferTooShort = refl
in_place OutOfRange = refl
in_place Old = refl
in_place Early = refl
in_place NotAsIssued = refl
in_place BadCopy = refl
in_place NotDecided = refl
in_place NotKept = refl
in_place BadText = refl
in_place BadStart = refl

pub one_number : (a b : Refusal) → number_of a ≡ number_of b → a ≡ b
one_number a b e = sym (in_place a) ∙ (ap (λ n. get_or in_order (n - 1) OutOfShape) e ∙ in_place b)

-- and none has that of what is done
pub not_done : (r : Refusal) → number_of r ≢ 0
not_done OutOfShape e = omega arith
not_done Malformed e = omega arith
not_done QueueFull e = omega arith
not_done AllIssued e = omega arith
not_done FailsOnGuess e = omega arith
not_done NoSuchNote e = omega arith
not_done NoSuchWaiting e = omega arith
not_done BufferTooShort e = omega arith
not_done OutOfRange e = omega arith
not_done Old e = omega arith
not_done Early e = omega arith
not_done NotAsIssued e = omega arith
not_done BadCopy e = omega arith
not_done NotDecided e = omega arith
not_done NotKept e = omega arith
not_done BadText e = omega arith
not_done BadStart e = omega arith

-- answers with one number are one answer, where what they have is one when both are done
pub same_answer :
    {A : Type 0} (r q : Result A Refusal) → answer_number r ≡ answer_number q →
    ((x y : A) → r ≡ Ok x → q ≡ Ok y → x ≡ y) → r ≡ q
same_answer (Ok x) (Ok y) e f = ap Ok (f x y refl refl)
same_answer (Ok x) (Err s) e f = absurd (not_done s (sym e))
same_answer (Err r) (Ok y) e f = absurd (not_done r e)
same_answer (Err r) (Err s) e f = ap Err (one_number r s e)
