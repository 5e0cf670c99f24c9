-- The fresh machine. Assumes nothing: these are definitions.
use Rattle.std.specs.Prelude.{ℕ, ◌&&◌, List, ltb, length, replicate, if◌then◌else◌}
use Rattle.basics.specs.Counts.{counts}
use Rattle.basics.specs.Refusals.{number_of}
use Rattle.basics.specs.declared.Refusal.TheVariants.{BadStart}
use Rattle.operation.specs.Limits.{Limits}
use Rattle.operation.specs.Packing.{empty}
use Rattle.effect.specs.Running.{filled}
use Rattle.effect.specs.Replaying.{most_queued}
use Rattle.machine.specs.Numbers.{note_count}
use Rattle.state.specs.Sizes.{sizes_good}
use Rattle.machine.specs.declared.Machine.{Machine}
use Rattle.machine.specs.Telling.{Made}

-- the cells and the guess are these, and all else is 0
abbrev pub started : Limits → ℕ → ℕ → ℕ → List ℕ → Machine
started l machines width me cells = record {
  machines = machines;
  width = width;
  me = me;
  agreed = cells;
  position = 0;
  guess = cells;
  waiting = 0;
  queue = replicate most_queued (empty l);
  issued = 0;
  done = 0;
  kept = 0;
  lost = 0;
  unheard = 0;
  notes = replicate note_count 0;
}

-- the all-zero state
abbrev pub zero_machine : Limits → Machine
zero_machine l = started l 0 0 0 (replicate l.cells 0)

abbrev pub bad_start : Limits → Made
bad_start l = record { answer = number_of BadStart; machine = zero_machine l }

-- 17 where a size, a first count or the own number is out of range
unfoldable pub fresh_of : Limits → ℕ → ℕ → List ℕ → Made
fresh_of l machines me first =
    if sizes_good l machines (length first) && (ltb me machines && counts first (length first) l.held)
    then record { answer = 0; machine = started l machines (length first) me (filled l first) }
    else bad_start l
