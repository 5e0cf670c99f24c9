-- The depth falls, or it stays and the parts that are left fall.
use Rattle.std.proofs.Common.{◌+◌, ◌*◌}
use Rattle.effect.proofs.walk.+atomic_either_operation_parts.Given as goal

abbrev pub decreases-operation : goal.decreases-operation
decreases-operation l = l.depth * 512

abbrev pub decreases-atomic : goal.decreases-atomic
decreases-atomic l = l.depth * 512 + l.n + 2

abbrev pub decreases-parts : goal.decreases-parts
decreases-parts l = l.depth * 512 + l.n + 1

abbrev pub decreases-either : goal.decreases-either
decreases-either l = l.depth * 512 + 1
