-- Ask for waiting operation j. Refusals in the paper's order: 1, 7, 8. Assumes nothing: these are definitions.
use Rattle.std.specs.Prelude.{ℕ, ◌+◌, not, ◌&&◌, List, ltb, leb, length, get_or, if◌then◌else◌}
use Rattle.basics.specs.Over.{over}
use Rattle.basics.specs.Refusals.{number_of}
use Rattle.basics.specs.declared.Refusal.{Refusal}
use Rattle.basics.specs.declared.Refusal.TheVariants.{OutOfShape, NoSuchWaiting, BufferTooShort}
use Rattle.operation.specs.Limits.{Limits}
use Rattle.operation.specs.Packing.{nothing}
use Rattle.operation.specs.declared.Packed.{Packed}
use Rattle.machine.specs.Shape.{shaped}
use Rattle.machine.specs.Telling.{Asked}
use Rattle.machine.specs.declared.Machine.{Machine}

abbrev pub not_asked : Refusal → Asked
not_asked refusal = record { answer = number_of refusal; number = 0; len = 0 }

-- operation j of the queue, 0 the oldest
abbrev pub waiting_at : Machine → ℕ → Packed
waiting_at m j = get_or m.queue j nothing

-- where the buffer has room for so many bytes
unfoldable pub ask_known : Limits → Machine → ℕ → ℕ → Asked
ask_known l m j room =
    if leb m.waiting j then not_asked NoSuchWaiting
    else (if ltb room l.bytes then not_asked BufferTooShort
    else record { answer = 0; number = m.done + j; len = (waiting_at m j).len })

unfoldable pub ask_of : Limits → Machine → ℕ → ℕ → Asked
ask_of l m j room = if not (shaped l m) then not_asked OutOfShape else ask_known l m j room

-- the lent buffer after it: the operation's bytes from its start where nothing is refused
unfoldable pub asked_known : Limits → Machine → ℕ → List ℕ → List ℕ
asked_known l m j buf =
    if ltb j m.waiting && leb l.bytes (length buf)
    then over (waiting_at m j).len (waiting_at m j).bytes buf
    else buf

unfoldable pub asked_into : Limits → Machine → ℕ → List ℕ → List ℕ
asked_into l m j buf = if not (shaped l m) then buf else asked_known l m j buf
