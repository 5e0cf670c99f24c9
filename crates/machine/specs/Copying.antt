-- Take a fresh copy. Refusals in the paper's order: 1, 13, 10, 12. Assumes nothing: these are definitions.
use Rattle.std.specs.Prelude.{ℕ, ◌+◌, ◌-◌, Bool, not, ◌&&◌, List, ltb, leb, eqb, length, if◌then◌else◌}
use Rattle.basics.specs.Counts.{counts}
use Rattle.basics.specs.Refusals.{number_of}
use Rattle.basics.specs.declared.Refusal.{Refusal}
use Rattle.basics.specs.declared.Refusal.TheVariants.{OutOfShape, BadCopy, Old, NotAsIssued}
use Rattle.operation.specs.Limits.{Limits}
use Rattle.effect.specs.Running.{filled}
use Rattle.effect.specs.Replaying.{replay, queued}
use Rattle.state.specs.Numbers.{most_issued, most_decided}
use Rattle.machine.specs.Shape.{shaped}
use Rattle.machine.specs.Queueing.{advanced}
use Rattle.machine.specs.Telling.{Copied}
use Rattle.machine.specs.declared.Machine.{Machine}

abbrev pub not_copied : Refusal → Machine → Copied
not_copied refusal m = record { answer = number_of refusal; left = 0; machine = m }

-- agreed cells and position are replaced, the `left` oldest leave the queue, done and unheard grow by as many, and the
-- guess is replayed
unfoldable pub copied : Limits → Machine → ℕ → List ℕ → ℕ → Copied
copied l m position cells left = record {
  answer = 0;
  left = left;
  machine = record {
    machines = m.machines;
    width = m.width;
    me = m.me;
    agreed = cells;
    position = position;
    guess = replay l m.width (queued (m.waiting - left) (advanced l left m.queue)) cells;
    waiting = m.waiting - left;
    queue = advanced l left m.queue;
    issued = m.issued;
    done = m.done + left;
    kept = m.kept;
    lost = m.lost;
    unheard = m.unheard + left;
    notes = m.notes;
  };
}

-- a copy that can be one: its position, its number of cells, each cell, and how many it says are decided
unfoldable pub copy_good : Limits → Machine → ℕ → List ℕ → ℕ → Bool
copy_good l m position cells decided =
    leb position most_decided &&
    (eqb (length cells) m.width && (counts cells (length cells) l.held && leb decided most_issued))

unfoldable pub copy_known : Limits → Machine → ℕ → List ℕ → ℕ → Copied
copy_known l m position cells decided =
    if leb position m.position then not_copied Old m
    else (if ltb decided m.done then not_copied NotAsIssued m
    else (if ltb m.issued decided then not_copied NotAsIssued m
    else copied l m position (filled l cells) (decided - m.done)))

unfoldable pub copy_of : Limits → Machine → ℕ → List ℕ → ℕ → Copied
copy_of l m position cells decided =
    if not (shaped l m) then not_copied OutOfShape m
    else (if not (copy_good l m position cells decided) then not_copied BadCopy m
    else copy_known l m position cells decided)
