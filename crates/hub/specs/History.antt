-- A hub against the history of all that it decided, the oldest first. Assumes nothing: these are definitions.
use Rattle.std.specs.Prelude.{ℕ, ◌+◌, ◌≤◌, ◌<◌, List, [], ◌∷◌, map, ◌≡◌, eqb, length, get_or, take, if◌then◌else◌}
use Rattle.operation.specs.Limits.{Limits}
use Rattle.effect.specs.Replaying.{replay}
use Rattle.state.specs.Numbers.{most_machines}
use Rattle.hub.specs.Ring.{most_kept, next_of, decided, record_of, record_at}
use Rattle.hub.specs.declared.Hub.{Hub}
use Rattle.hub.specs.declared.Record.{Record}

-- an operation that was decided, and whose it was
pub record Decision : Type 0 where
  pub machine : ℕ
  pub op : List ℕ

-- what `get_or` gives past the end of a history
abbrev pub no_decision : Decision
no_decision = record { machine = 0; op = [] }

-- how many operations of machine m a history has
unfoldable pub count_of : ℕ → List Decision → ℕ
count_of m [] = 0
count_of m (d ∷ ds) = (if eqb d.machine m then 1 else 0) + count_of m ds

-- the cells after a history
abbrev pub cells_after : Limits → ℕ → List Decision → List ℕ → List ℕ
cells_after l width history first = replay l width (map (λ (d : Decision). d.op) history) first

-- entry n of a history as a record: its number counts its machine's entries before it
abbrev pub entry_of : Limits → List Decision → ℕ → Record
entry_of l history n =
    let d = get_or history n no_decision in
    record_of l d.machine (count_of d.machine (take n history)) d.op

-- the hub has decided this history since it had the first cells
pub record HasDecided (l : Limits) (first : List ℕ) (history : List Decision) (h : Hub) : Type 0 where
  pub places : length h.records ≡ most_kept
  pub machines : length h.next ≡ most_machines
  pub count : decided h ≡ length history
  pub cells : h.cells ≡ cells_after l h.width history first
  pub next : (m : ℕ) → m < most_machines → next_of h m ≡ count_of m history
  pub kept :
      (n : ℕ) → n < length history → length history ≤ n + most_kept → record_at h.records n ≡ entry_of l history n
