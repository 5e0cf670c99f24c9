-- Good shape of the hub. Assumes nothing: these are definitions.
use Rattle.std.specs.Prelude.{ℕ, zero, suc, ◌+◌, ◌-◌, Bool, true, ◌&&◌, List, ltb, eqb, get_or, set, if◌then◌else◌}
use Rattle.basics.specs.Every.{every}
use Rattle.basics.specs.Counts.{counts}
use Rattle.operation.specs.Limits.{Limits}
use Rattle.state.specs.Numbers.{most_issued}
use Rattle.state.specs.Sizes.{sizes_good}
use Rattle.state.specs.Holding.{holds, blank}
use Rattle.hub.specs.Ring.{most_kept, total, kept_count, no_record, record_at}
use Rattle.hub.specs.declared.Hub.{Hub}
use Rattle.hub.specs.declared.Record.{Record}

-- a place of the ring that holds a record, and one that holds none
unfoldable pub record_good : Limits → ℕ → ℕ → Record → Bool
record_good l machines width r = ltb r.machine machines && holds l width r.op

unfoldable pub record_blank : Record → Bool
record_blank r = eqb r.machine 0 && (eqb r.number 0 && blank r.op)

-- place i of the ring, where n operations are decided
unfoldable pub place_good : Limits → ℕ → ℕ → ℕ → ℕ → Record → Bool
place_good l machines width n i r = if ltb i n then record_good l machines width r else record_blank r

-- the k records below record n, the newest first, are each numbered one below what is left of its machine's numbers
unfoldable pub numbered : List Record → ℕ → ℕ → List ℕ → Bool
numbered records zero n left = true
numbered records (suc k) n left =
    let r = record_at records (n - 1) in
    eqb (get_or left r.machine 0) (r.number + 1) && numbered records k (n - 1) (set left r.machine r.number)

unfoldable pub ring_good : Limits → ℕ → ℕ → ℕ → List Record → Bool
ring_good l machines width n records = every most_kept (λ i. place_good l machines width n i (get_or records i no_record))

-- a machine's kept records are numbered one after another up to its next less 1
unfoldable pub numbers_good : List ℕ → List Record → Bool
numbers_good next records = numbered records (kept_count (total next)) (total next) next

unfoldable pub shaped : Limits → Hub → Bool
shaped l h =
    sizes_good l h.machines h.width &&
    (counts h.cells h.width l.held &&
    (counts h.next h.machines most_issued &&
    (ring_good l h.machines h.width (total h.next) h.records && numbers_good h.next h.records)))
