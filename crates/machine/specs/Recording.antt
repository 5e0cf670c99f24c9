-- Take a record. Refusals in the paper's order: 1, 9, 2, 10, 11, 12. Assumes nothing: these are definitions.
use Rattle.std.specs.Prelude.{ℕ, ◌+◌, ◌-◌, Bool, not, ◌&&◌, List, ltb, eqb, get_or, if◌then◌else◌}
use Rattle.basics.specs.Refusals.{number_of}
use Rattle.basics.specs.declared.Refusal.{Refusal}
use Rattle.basics.specs.declared.Refusal.TheVariants.{OutOfShape, OutOfRange, Malformed, Old, Early, NotAsIssued}
use Rattle.operation.specs.Limits.{Limits}
use Rattle.operation.specs.Packing.{unpacked, nothing, same_bytes}
use Rattle.operation.specs.Reading.{well_formed}
use Rattle.effect.specs.Running.{outcome, Came, came, bit}
use Rattle.effect.specs.Replaying.{replay, queued}
use Rattle.state.specs.Numbers.{most_issued, most_decided}
use Rattle.machine.specs.Shape.{shaped}
use Rattle.machine.specs.Queueing.{advanced}
use Rattle.machine.specs.Telling.{Taken}
use Rattle.machine.specs.declared.Machine.{Machine}

abbrev pub not_taken : Refusal → Machine → Taken
not_taken refusal m = record { answer = number_of refusal; outcome = 0; machine = m }

-- an own record: the front of the queue goes, done grows, kept or lost grows by the outcome, the guess stays
unfoldable pub own_taken : Limits → Machine → Came → Taken
own_taken l m ran = record {
  answer = 0;
  outcome = bit ran.ok;
  machine = record {
    machines = m.machines;
    width = m.width;
    me = m.me;
    agreed = ran.cells;
    position = m.position + 1;
    guess = m.guess;
    waiting = m.waiting - 1;
    queue = advanced l 1 m.queue;
    issued = m.issued;
    done = m.done + 1;
    kept = m.kept + bit ran.ok;
    lost = m.lost + bit (not ran.ok);
    unheard = m.unheard;
    notes = m.notes;
  };
}

-- another's: the guess becomes the queue replayed on the new agreed cells
unfoldable pub other_taken : Limits → Machine → List ℕ → Taken
other_taken l m cells = record {
  answer = 0;
  outcome = 2;
  machine = record {
    machines = m.machines;
    width = m.width;
    me = m.me;
    agreed = cells;
    position = m.position + 1;
    guess = replay l m.width (queued m.waiting m.queue) cells;
    waiting = m.waiting;
    queue = m.queue;
    issued = m.issued;
    done = m.done;
    kept = m.kept;
    lost = m.lost;
    unheard = m.unheard;
    notes = m.notes;
  };
}

-- the operation run on the agreed cells, success or not
abbrev pub ran_agreed : Limits → Machine → List ℕ → Came
ran_agreed l m op = came m.agreed (outcome l m.width op m.agreed)

-- an own record is as issued here: it is the front of the queue, under its number
unfoldable pub as_issued : Machine → ℕ → List ℕ → Bool
as_issued m number op =
    ltb 0 m.waiting && (eqb number m.done && same_bytes (unpacked (get_or m.queue 0 nothing)) op)

unfoldable pub record_known : Limits → Machine → ℕ → ℕ → ℕ → List ℕ → Taken
record_known l m n who number op =
    if ltb n m.position then not_taken Old m
    else (if ltb m.position n then not_taken Early m
    else (if not (eqb who m.me) then other_taken l m (ran_agreed l m op).cells
    else (if as_issued m number op then own_taken l m (ran_agreed l m op)
    else not_taken NotAsIssued m)))

unfoldable pub record_of : Limits → Machine → ℕ → ℕ → ℕ → List ℕ → Taken
record_of l m n who number op =
    if not (shaped l m) then not_taken OutOfShape m
    else (if not (ltb who m.machines && (ltb number most_issued && ltb n most_decided)) then not_taken OutOfRange m
    else (if not (well_formed l m.width op) then not_taken Malformed m
    else record_known l m n who number op))
