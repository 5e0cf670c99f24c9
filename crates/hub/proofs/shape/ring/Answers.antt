use Rattle.std.proofs.Common.{◌∙◌}
use Rattle.basics.proofs.Places.{tests_places}
use Rattle.operation.specs.Limits.{limits}
use Rattle.hub.specs.Ring.{no_record}
use Rattle.hub.specs.Shape.{place_good, ring_good}
use Rattle.hub.proofs.shape.ring.Goals as goal

pub returns : goal.returns
unfolding ring_good
returns c =
    let a = c.args in
    rw c.told-records at
    (c.places.ensures ∙ tests_places (place_good limits a.machines a.width a.decided) a.records.now no_record)
