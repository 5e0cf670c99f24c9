-- Submit. Refusals in the paper's order: 1, 9, 2, 10, 11. Assumes nothing: these are definitions.
use Rattle.std.specs.Prelude.{ℕ, ◌+◌, ◌%◌, ◌≤◌, ◌<◌, true, not, ◌&&◌, List, ◌≡◌, ltb, length, set, if◌then◌else◌}
use Rattle.basics.specs.Counts.{counts}
use Rattle.basics.specs.Refusals.{number_of}
use Rattle.basics.specs.declared.Refusal.{Refusal}
use Rattle.basics.specs.declared.Refusal.TheVariants.{OutOfShape, OutOfRange, Malformed, Old, Early}
use Rattle.operation.specs.Limits.{Limits}
use Rattle.operation.specs.Reading.{well_formed}
use Rattle.effect.specs.Running.{outcome, Came, came, bit}
use Rattle.state.specs.Numbers.{most_machines, most_issued}
use Rattle.hub.specs.Ring.{most_kept, next_of, decided, record_of}
use Rattle.hub.specs.Shape.{shaped}
use Rattle.hub.specs.Telling.{Submitted}
use Rattle.hub.specs.declared.Hub.{Hub}

abbrev pub not_submitted : Refusal → Hub → Submitted
not_submitted r h = record { answer = number_of r; outcome = 0; number = 0; hub = h }

-- the operation run on the cells, success or not
abbrev pub ran : Limits → Hub → List ℕ → Came
ran l h op = came h.cells (outcome l h.width op h.cells)

-- next grows, and it becomes the newest record; with 256 kept, the oldest goes
unfoldable pub taken : Limits → Hub → ℕ → ℕ → List ℕ → Came → Submitted
taken l h machine number op came = record {
  answer = 0;
  outcome = bit came.ok;
  number = decided h;
  hub = record {
    machines = h.machines;
    width = h.width;
    cells = came.cells;
    next = set h.next machine (number + 1);
    records = set h.records (decided h % most_kept) (record_of l machine number op);
  };
}

-- taken exactly when the number is that machine's next
unfoldable pub submit_known : Limits → Hub → ℕ → ℕ → List ℕ → Submitted
submit_known l h machine number op =
    if ltb number (next_of h machine) then not_submitted Old h
    else (if ltb (next_of h machine) number then not_submitted Early h
    else taken l h machine number op (ran l h op))

unfoldable pub submit_of : Limits → Hub → ℕ → ℕ → List ℕ → Submitted
submit_of l h machine number op =
    if not (shaped l h) then not_submitted OutOfShape h
    else (if not (ltb machine h.machines && ltb number most_issued) then not_submitted OutOfRange h
    else (if not (well_formed l h.width op) then not_submitted Malformed h
    else submit_known l h machine number op))

-- what the code that takes a submission is handed
pub record Takes (l : Limits) (h : Hub) (machine number : ℕ) (op : List ℕ) : Type 0 where
  pub machine_most : machine < most_machines
  pub number_most : number < most_issued
  pub short : length op ≤ l.bytes
  pub next : counts h.next h.machines most_issued ≡ true
