-- The fresh hub. Assumes nothing: these are definitions.
use Rattle.std.specs.Prelude.{ℕ, ◌&&◌, List, length, replicate, if◌then◌else◌}
use Rattle.basics.specs.Counts.{counts}
use Rattle.basics.specs.Refusals.{number_of}
use Rattle.basics.specs.declared.Refusal.TheVariants.{BadStart}
use Rattle.operation.specs.Limits.{Limits}
use Rattle.effect.specs.Running.{filled}
use Rattle.state.specs.Numbers.{most_machines}
use Rattle.state.specs.Sizes.{sizes_good}
use Rattle.hub.specs.Ring.{most_kept, empty_record}
use Rattle.hub.specs.Telling.{Made}
use Rattle.hub.specs.declared.Hub.{Hub}

-- the cells are these, and all else is 0
abbrev pub started : Limits → ℕ → ℕ → List ℕ → Hub
started l machines width cells = record {
  machines = machines;
  width = width;
  cells = cells;
  next = replicate most_machines 0;
  records = replicate most_kept (empty_record l);
}

-- the all-zero state
abbrev pub zero_hub : Limits → Hub
zero_hub l = started l 0 0 (replicate l.cells 0)

abbrev pub bad_start : Limits → Made
bad_start l = record { answer = number_of BadStart; hub = zero_hub l }

-- 17 where a size or a first count is out of range
unfoldable pub fresh_of : Limits → ℕ → List ℕ → Made
fresh_of l machines first =
    if sizes_good l machines (length first) && counts first (length first) l.held
    then record { answer = 0; hub = started l machines (length first) (filled l first) }
    else bad_start l
