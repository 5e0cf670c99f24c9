-- Note. Refusals in the paper's order: 1, 6. Assumes nothing: these are definitions.
use Rattle.std.specs.Prelude.{ℕ, not, ◌&&◌, ltb, set, if◌then◌else◌}
use Rattle.basics.specs.Refusals.{number_of}
use Rattle.basics.specs.declared.Refusal.{Refusal}
use Rattle.basics.specs.declared.Refusal.TheVariants.{OutOfShape, NoSuchNote}
use Rattle.operation.specs.Limits.{Limits}
use Rattle.effect.specs.Running.{cell}
use Rattle.machine.specs.Numbers.{note_count}
use Rattle.machine.specs.Shape.{shaped}
use Rattle.machine.specs.Telling.{Noted}
use Rattle.machine.specs.declared.Machine.{Machine}

abbrev pub not_noted : Refusal → Machine → Noted
not_noted refusal m = record { answer = number_of refusal; count = 0; machine = m }

-- note k becomes the guess of cell i; nothing else changes
unfoldable pub written : Machine → ℕ → ℕ → Noted
written m k i = record {
  answer = 0;
  count = cell m.guess i;
  machine = record {
    machines = m.machines;
    width = m.width;
    me = m.me;
    agreed = m.agreed;
    position = m.position;
    guess = m.guess;
    waiting = m.waiting;
    queue = m.queue;
    issued = m.issued;
    done = m.done;
    kept = m.kept;
    lost = m.lost;
    unheard = m.unheard;
    notes = set m.notes k (cell m.guess i);
  };
}

unfoldable pub note_known : Machine → ℕ → ℕ → Noted
note_known m k i = if ltb k note_count && ltb i m.width then written m k i else not_noted NoSuchNote m

unfoldable pub note_of : Limits → Machine → ℕ → ℕ → Noted
note_of l m k i = if not (shaped l m) then not_noted OutOfShape m else note_known m k i
