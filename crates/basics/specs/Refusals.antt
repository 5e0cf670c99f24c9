-- The paper's number of each refusal, and of what a call answers. Assumes nothing: these are definitions.
use Rattle.std.specs.Prelude.{ℕ, List, [], ◌∷◌, Result, Ok, Err}
use Rattle.basics.specs.declared.Refusal.{Refusal}
use Rattle.basics.specs.declared.Refusal.TheVariants.{
  OutOfShape,
  Malformed,
  QueueFull,
  AllIssued,
  FailsOnGuess,
  NoSuchNote,
  NoSuchWaiting,
  BufferTooShort,
  OutOfRange,
  Old,
  Early,
  NotAsIssued,
  BadCopy,
  NotDecided,
  NotKept,
  BadText,
  BadStart,
}

abbrev pub number_of : Refusal → ℕ
number_of OutOfShape = 1
number_of Malformed = 2
number_of QueueFull = 3
number_of AllIssued = 4
number_of FailsOnGuess = 5
number_of NoSuchNote = 6
number_of NoSuchWaiting = 7
number_of BufferTooShort = 8
number_of OutOfRange = 9
number_of Old = 10
number_of Early = 11
number_of NotAsIssued = 12
number_of BadCopy = 13
number_of NotDecided = 14
number_of NotKept = 15
number_of BadText = 16
number_of BadStart = 17

-- all refusals, each in the place that its number gives, from 1
abbrev pub in_order : List Refusal
in_order =
    OutOfShape ∷ Malformed ∷ QueueFull ∷ AllIssued ∷ FailsOnGuess ∷ NoSuchNote ∷ NoSuchWaiting ∷ BufferTooShort ∷
    OutOfRange ∷ Old ∷ Early ∷ NotAsIssued ∷ BadCopy ∷ NotDecided ∷ NotKept ∷ BadText ∷ BadStart ∷ []

-- what is done is 0
abbrev pub answer_number : {A : Type 0} → Result A Refusal → ℕ
answer_number (Ok x) = 0
answer_number (Err r) = number_of r
