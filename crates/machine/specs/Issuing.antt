-- Issue. Refusals in the paper's order: 1, 2, 3, 4, 5. Assumes nothing: these are definitions.
use Rattle.std.specs.Prelude.{ℕ, ◌+◌, not, List, leb, set, if◌then◌else◌}
use Rattle.std.proofs.Math.Option.{Option, some, none}
use Rattle.basics.specs.Refusals.{number_of}
use Rattle.basics.specs.declared.Refusal.{Refusal}
use Rattle.basics.specs.declared.Refusal.TheVariants.{OutOfShape, Malformed, QueueFull, AllIssued, FailsOnGuess}
use Rattle.operation.specs.Limits.{Limits}
use Rattle.operation.specs.Packing.{packed}
use Rattle.operation.specs.Reading.{well_formed}
use Rattle.effect.specs.Running.{outcome}
use Rattle.effect.specs.Replaying.{most_queued}
use Rattle.state.specs.Numbers.{most_issued}
use Rattle.machine.specs.Shape.{shaped}
use Rattle.machine.specs.Telling.{Issued}
use Rattle.machine.specs.declared.Machine.{Machine}

abbrev pub not_issued : Refusal → Machine → Issued
not_issued refusal m = record { answer = number_of refusal; number = 0; machine = m }

-- the guess changes, the operation joins the end of the queue and takes the next number
unfoldable pub sold : Limits → Machine → List ℕ → List ℕ → Issued
sold l m op guess = record {
  answer = 0;
  number = m.issued;
  machine = record {
    machines = m.machines;
    width = m.width;
    me = m.me;
    agreed = m.agreed;
    position = m.position;
    guess = guess;
    waiting = m.waiting + 1;
    queue = set m.queue m.waiting (packed l op);
    issued = m.issued + 1;
    done = m.done;
    kept = m.kept;
    lost = m.lost;
    unheard = m.unheard;
    notes = m.notes;
  };
}

-- the guess after the operation, or none where it fails
abbrev pub sold_on : Limits → Machine → List ℕ → Option (List ℕ) → Issued
sold_on l m op (some guess) = sold l m op guess
sold_on l m op none = not_issued FailsOnGuess m

unfoldable pub issue_known : Limits → Machine → List ℕ → Issued
issue_known l m op =
    if leb most_queued m.waiting then not_issued QueueFull m
    else (if leb most_issued m.issued then not_issued AllIssued m
    else sold_on l m op (outcome l m.width op m.guess))

unfoldable pub issue_of : Limits → Machine → List ℕ → Issued
issue_of l m op =
    if not (shaped l m) then not_issued OutOfShape m
    else (if not (well_formed l m.width op) then not_issued Malformed m
    else issue_known l m op)
