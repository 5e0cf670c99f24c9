use Rattle.operation.specs.Limits.{limits}
use Rattle.state.proofs.InSize.{sizes as in_size}
use mathlib.Core.Path.{sym}
use Rattle.machine.proofs.Machine.fresh.Goals as goal

pub cells_of-requires : goal.cells_of-requires
cells_of-requires c = (in_size limits c.args.machines _ (sym c.if-sizes.ensures)).width_most
