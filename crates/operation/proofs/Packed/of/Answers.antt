use lib.ListN.{length}
use lib.Seq.{take-length}
use mathlib.Core.Path.{ap}
use Rattle.operation.specs.Packing.{packed}
use Rattle.operation.proofs.Packed.of.Goals as goal

pub returns : goal.returns
unfolding packed
returns c = rw take-length (ap (λ b. record { len = length c.args.op.now; bytes = b }) c.lay.ensures)
