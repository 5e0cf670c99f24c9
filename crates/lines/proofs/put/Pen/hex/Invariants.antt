use Prim.Native.Nat.{◌+◌, ◌*◌}
use lib.ListN.{take}
use mathlib.Core.Path.{◌≡◌}
use Rattle.lines.specs.Hex.{hex_of}
use Rattle.lines.specs.Pens.{Lays}
use Rattle.lines.proofs.put.Pen.hex.Given as goal

abbrev pub invariant-loop-b : goal.invariant-loop-b
invariant-loop-b l =
    (l.self.at ≡ l.initial.self.at + 2 * l.b-index) × Lays l.initial.self l.self (hex_of (take l.b-index l.src))
