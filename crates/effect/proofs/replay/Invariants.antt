use mathlib.Core.List.{map}
use mathlib.Core.Path.{◌≡◌}
use lib.ListN.{take}
use Rattle.operation.specs.Limits.{limits}
use Rattle.operation.specs.Packing.{unpacked}
use Rattle.effect.specs.Replaying.{replay}
use Rattle.effect.proofs.replay.Given as goal

abbrev pub invariant-loop-o : goal.invariant-loop-o
invariant-loop-o l = l.cells ≡ replay limits l.width (map unpacked (take l.o-index l.queue)) l.initial.cells
