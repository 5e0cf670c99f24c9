-- Writing the hub's text into a lent buffer. Refusals in the paper's order: 1, 8. Assumes nothing: these are definitions.
use Rattle.std.specs.Prelude.{ℕ, not, ◌&&◌, List, ltb, leb, length, Result, Ok, Err, if◌then◌else◌}
use Rattle.basics.specs.Over.{over}
use Rattle.basics.specs.Refusals.{number_of}
use Rattle.basics.specs.declared.Refusal.{Refusal}
use Rattle.basics.specs.declared.Refusal.TheVariants.{OutOfShape, BufferTooShort}
use Rattle.operation.specs.Limits.{Limits}
use Rattle.lines.specs.Texts.{text_of}
use Rattle.hub.specs.Shape.{shaped}
use Rattle.hub.specs.declared.Hub.{Hub}
use Rattle.hubtext.specs.Writing.{values_of}
use Rattle.hubtext.specs.Reading.{hub_form}

-- the text of a hub
abbrev pub hub_text : Limits → Hub → List ℕ
hub_text l h = text_of (hub_form l) (values_of h)

-- the paper's number of the answer, and how long the text is
pub record Written : Type 0 where
  pub answer : ℕ
  pub len : ℕ

abbrev pub not_written : Refusal → Written
not_written r = record { answer = number_of r; len = 0 }

abbrev pub write_told : Result ℕ Refusal → Written
write_told (Ok len) = record { answer = 0; len = len }
write_told (Err r) = not_written r

-- where the buffer has room for so many bytes: 8 exactly if the text is longer
unfoldable pub write_of : Limits → Hub → ℕ → Written
write_of l h room =
    if not (shaped l h) then not_written OutOfShape
    else (if ltb room (length (hub_text l h)) then not_written BufferTooShort
    else record { answer = 0; len = length (hub_text l h) })

-- the lent buffer after it: the text from its start where nothing is refused; bytes after the text are unchanged
unfoldable pub written_into : Limits → Hub → List ℕ → List ℕ
written_into l h buf =
    if shaped l h && leb (length (hub_text l h)) (length buf) then over (length (hub_text l h)) (hub_text l h) buf
    else buf
