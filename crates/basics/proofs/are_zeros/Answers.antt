use Rattle.std.proofs.Common.{◌∙◌}
use Rattle.basics.proofs.Counts.{bytes_zeros}
use Rattle.basics.proofs.are_zeros.Goals as goal

pub returns : goal.returns
returns c = c.are_counts.ensures ∙ bytes_zeros _ _ c.type_inv.xs
