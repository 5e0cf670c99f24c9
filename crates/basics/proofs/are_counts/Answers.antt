use Rattle.std.proofs.Common.{◌∙◌}
use Rattle.basics.proofs.Places.{counts_places}
use Rattle.basics.proofs.are_counts.Goals as goal

pub returns : goal.returns
returns g c = c.all_counts.ensures ∙ counts_places g.T.Count.value _ _ _
