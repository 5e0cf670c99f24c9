use Rattle.std.proofs.Common.{◌+◌, ◌*◌, ◌≤◌, take, map}
use Rattle.operation.specs.Limits.{limits}
use Rattle.lines.specs.Pens.{Lays}
use Rattle.lines.specs.Texts.{text_of}
use Rattle.hubtext.specs.Reading.{hub_form}
use Rattle.hubtext.specs.Values.{number}
use Rattle.hubtext.proofs.lay.number_lines.Given as goal

abbrev pub invariant-loop-n : goal.invariant-loop-n
invariant-loop-n g l =
    (l.pen.at ≤ l.initial.pen.at + 30 * l.n-index) ×
    Lays l.initial.pen l.pen
    (text_of (hub_form limits) (map (number l.key) (take l.n-index (map g.T.Count.value l.numbers))))
