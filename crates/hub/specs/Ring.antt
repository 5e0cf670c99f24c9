-- The ring of kept records: record n stands in place n mod 256. Assumes nothing: these are definitions.
use Rattle.std.specs.Prelude.{ℕ, ◌%◌, min, List, get_or}
use Rattle.basics.specs.Sums.{sum_to}
use Rattle.operation.specs.Limits.{Limits}
use Rattle.operation.specs.Packing.{packed, empty, nothing}
use Rattle.state.specs.Numbers.{most_machines}
use Rattle.hub.specs.declared.Hub.{Hub}
use Rattle.hub.specs.declared.Record.{Record}

-- how many records the hub keeps at most
abbrev pub most_kept : ℕ
most_kept = 256

-- the next operation number of machine m
abbrev pub next_of : Hub → ℕ → ℕ
next_of h m = get_or h.next m 0

-- how many operations are decided: the sum of all next
unfoldable pub total : List ℕ → ℕ
total next = sum_to most_machines (λ m. get_or next m 0)

abbrev pub decided : Hub → ℕ
decided h = total h.next

-- how many records are kept: the smaller of 256 and the sum of all next
abbrev pub kept_count : ℕ → ℕ
kept_count n = min most_kept n

-- operation `number` of a machine
abbrev pub record_of : Limits → ℕ → ℕ → List ℕ → Record
record_of l machine number op = record { machine = machine; number = number; op = packed l op }

-- a place with no record
abbrev pub empty_record : Limits → Record
empty_record l = record { machine = 0; number = 0; op = empty l }

-- what `get_or` gives past the end of a ring
abbrev pub no_record : Record
no_record = record { machine = 0; number = 0; op = nothing }

-- record n, where it is kept
abbrev pub record_at : List Record → ℕ → Record
record_at records n = get_or records (n % most_kept) no_record
