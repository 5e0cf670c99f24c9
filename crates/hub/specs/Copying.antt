-- Copy for a machine. Refusals in the paper's order: 1, 9, 8. Assumes nothing: these are definitions.
use Rattle.std.specs.Prelude.{ℕ, not, ◌&&◌, List, ltb, leb, length, if◌then◌else◌}
use Rattle.basics.specs.Over.{over}
use Rattle.basics.specs.Refusals.{number_of}
use Rattle.basics.specs.declared.Refusal.{Refusal}
use Rattle.basics.specs.declared.Refusal.TheVariants.{OutOfShape, OutOfRange, BufferTooShort}
use Rattle.operation.specs.Limits.{Limits}
use Rattle.hub.specs.Ring.{next_of, decided}
use Rattle.hub.specs.Shape.{shaped}
use Rattle.hub.specs.Telling.{Copied}
use Rattle.hub.specs.declared.Hub.{Hub}

abbrev pub not_copied : Refusal → Copied
not_copied r = record { answer = number_of r; position = 0; decided = 0 }

-- the hub's position, and how many operations of the machine it has decided
abbrev pub copied : Hub → ℕ → Copied
copied h machine = record { answer = 0; position = decided h; decided = next_of h machine }

-- where the buffer has room for so many numbers
unfoldable pub copy_known : Limits → Hub → ℕ → ℕ → Copied
copy_known l h machine room =
    if leb h.machines machine then not_copied OutOfRange
    else (if ltb room l.cells then not_copied BufferTooShort
    else copied h machine)

unfoldable pub copy_of : Limits → Hub → ℕ → ℕ → Copied
copy_of l h machine room = if not (shaped l h) then not_copied OutOfShape else copy_known l h machine room

-- the lent buffer after it: as many cells as there are, from its start, where nothing is refused
unfoldable pub copied_known : Limits → Hub → ℕ → List ℕ → List ℕ
copied_known l h machine buf =
    if ltb machine h.machines && leb l.cells (length buf) then over h.width h.cells buf else buf

unfoldable pub copied_into : Limits → Hub → ℕ → List ℕ → List ℕ
copied_into l h machine buf = if not (shaped l h) then buf else copied_known l h machine buf
