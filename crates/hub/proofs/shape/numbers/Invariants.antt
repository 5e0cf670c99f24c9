use Rattle.std.proofs.Common.{◌≡◌, ◌-◌, length}
use Rattle.hub.specs.Shape.{numbered, numbers_good}
use Rattle.hub.proofs.shape.numbers.Given as goal

abbrev pub invariant-loop-n : goal.invariant-loop-n
invariant-loop-n l =
    (length l.left ≡ 40) × (numbered l.records (l.n - l.n-start) l.n l.left ≡ numbers_good l.next l.records)
