-- The text of a hub. Assumes nothing: these are definitions.
use Rattle.std.specs.Prelude.{ℕ, zero, suc, ◌+◌, ◌-◌, ◌≤◌, ◌<◌, List, [], ◌∷◌, ◌++◌, map, take}
use Rattle.operation.specs.Packing.{unpacked}
use Rattle.hub.specs.Ring.{decided, kept_count, record_at}
use Rattle.hub.specs.History.{Decision}
use Rattle.hub.specs.declared.Hub.{Hub}
use Rattle.hub.specs.declared.Record.{Record}
use Rattle.hubtext.specs.Keys.{form=, machines=, cells=, cell=, next=}
use Rattle.hubtext.specs.Values.{Value, number, entry}

-- a record's machine and operation
abbrev pub entry_of : Record → Decision
entry_of r = record { machine = r.machine; op = unpacked r.op }

-- the k records from record n on
unfoldable pub entries_from : List Record → ℕ → ℕ → List Decision
entries_from records n zero = []
entries_from records n (suc k) = entry_of (record_at records n) ∷ entries_from records (n + 1) k

-- the kept records, oldest first
abbrev pub kept_entries : Hub → List Decision
kept_entries h = entries_from h.records (decided h - kept_count (decided h)) (kept_count (decided h))

-- the values of a hub's lines: form, machines, cells; a cell line for each cell; a next line for each machine; a rec line for
-- each kept record, oldest first
unfoldable pub values_of : Hub → List Value
values_of h =
    number form= 1 ∷ number machines= h.machines ∷ number cells= h.width ∷
    (map (number cell=) (take h.width h.cells) ++
    (map (number next=) (take h.machines h.next) ++ map entry (kept_entries h)))

-- the records that the writer is handed are no longer than an operation may be
abbrev pub Short : List Record → ℕ → ℕ → Type 0
Short records n k = (i : ℕ) → i < k → (record_at records (n + i)).op.len ≤ 48
