use Prim.Native.Nat.{◌+◌}
use lib.ListN.{take}
use mathlib.Core.Path.{◌≡◌}
use Rattle.lines.specs.Pens.{Lays}
use Rattle.lines.proofs.put.Pen.bytes.Given as goal

abbrev pub invariant-loop-b : goal.invariant-loop-b
invariant-loop-b l =
    (l.self.at ≡ l.initial.self.at + l.b-index) × Lays l.initial.self l.self (take l.b-index l.src)
