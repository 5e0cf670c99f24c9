use Rattle.operation.specs.Limits.{limits}
use Rattle.lines.specs.Pens.{Lays}
use Rattle.lines.specs.Texts.{text_of}
use Rattle.hubtext.specs.Reading.{hub_form}
use mathlib.Core.List.{map}
use Prim.Native.Nat.{◌+◌, ◌-◌, ◌*◌, ◌≤◌}
use Rattle.hubtext.specs.Values.{entry}
use Rattle.hubtext.specs.Writing.{entries_from}
use Rattle.hubtext.proofs.lay.record_lines.Given as goal

abbrev pub invariant-loop-n : goal.invariant-loop-n
invariant-loop-n l =
    (l.pen.at ≤ l.initial.pen.at + 130 * (l.n - l.first)) ×
    Lays l.initial.pen l.pen (text_of (hub_form limits) (map entry (entries_from l.records l.first (l.n - l.first))))
