use Rattle.basics.proofs.Places.{tests_places}
use Rattle.machine.specs.Shape.{place_good}
use Rattle.operation.specs.Packing.{nothing}
use Rattle.operation.specs.Limits.{limits}
use Rattle.basics.specs.Every.{every}
use lib.ListN.{get_or}
use mathlib.Core.Path.{◌∙◌, ap}
use borrow.Author.Rules.{rules}
use Rattle.machine.proofs.Machine.places_hold.Goals as goal

pub returns : goal.returns
returns c = let m = c.args.self.now in
    c.places.ensures ∙ tests_places (place_good limits m.width m.waiting) m.queue nothing ∙
    ap (λ n. every n (λ i. place_good limits m.width m.waiting i (get_or m.queue i nothing))) (search rules)
