-- Fetch record n. Refusals in the paper's order: 1, 14, 15, 8. Assumes nothing: these are definitions.
use Rattle.std.specs.Prelude.{ℕ, ◌+◌, Bool, not, ◌&&◌, List, ltb, leb, length, if◌then◌else◌}
use Rattle.basics.specs.Over.{over}
use Rattle.basics.specs.Refusals.{number_of}
use Rattle.basics.specs.declared.Refusal.{Refusal}
use Rattle.basics.specs.declared.Refusal.TheVariants.{OutOfShape, NotDecided, NotKept, BufferTooShort}
use Rattle.operation.specs.Limits.{Limits}
use Rattle.hub.specs.Ring.{most_kept, decided, record_at}
use Rattle.hub.specs.Shape.{shaped}
use Rattle.hub.specs.Telling.{Fetched}
use Rattle.hub.specs.declared.Hub.{Hub}
use Rattle.hub.specs.declared.Record.{Record}

abbrev pub not_fetched : Refusal → Fetched
not_fetched r = record { answer = number_of r; machine = 0; number = 0; len = 0 }

abbrev pub fetched : Record → Fetched
fetched r = record { answer = 0; machine = r.machine; number = r.number; len = r.op.len }

-- where the buffer has room for so many bytes
unfoldable pub fetch_known : Limits → Hub → ℕ → ℕ → Fetched
fetch_known l h n room =
    if leb (decided h) n then not_fetched NotDecided
    else (if ltb (n + most_kept) (decided h) then not_fetched NotKept
    else (if ltb room l.bytes then not_fetched BufferTooShort
    else fetched (record_at h.records n)))

unfoldable pub fetch_of : Limits → Hub → ℕ → ℕ → Fetched
fetch_of l h n room = if not (shaped l h) then not_fetched OutOfShape else fetch_known l h n room

-- whether record n is kept
abbrev pub is_kept : Hub → ℕ → Bool
is_kept h n = ltb n (decided h) && leb (decided h) (n + most_kept)

-- the lent buffer after it: the operation's bytes from its start where nothing is refused
unfoldable pub fetched_known : Limits → Hub → ℕ → List ℕ → List ℕ
fetched_known l h n buf =
    if is_kept h n && leb l.bytes (length buf)
    then over (record_at h.records n).op.len (record_at h.records n).op.bytes buf
    else buf

unfoldable pub fetched_into : Limits → Hub → ℕ → List ℕ → List ℕ
fetched_into l h n buf = if not (shaped l h) then buf else fetched_known l h n buf
