-- What is known of a copy that can be one. Assumes nothing.
use Prim.Native.Nat.{ℕ, ◌≤◌}
use mathlib.Core.Bool.{true}
use mathlib.Core.List.{List}
use mathlib.Core.Path.{◌≡◌}
use lib.Dec.{leb, eqb}
use lib.ListN.{length}
use borrow.Author.Tests.{leb-true, eqb-true}
use Rattle.basics.specs.Counts.{counts}
use Rattle.basics.proofs.Choice.{and_both}
use Rattle.operation.specs.Limits.{Limits}
use Rattle.state.specs.Numbers.{most_decided}
use Rattle.machine.specs.Copying.{copy_good}
use Rattle.machine.specs.declared.Machine.{Machine}

module _ (l : Limits) (m : Machine) (position : ℕ) (cells : List ℕ) (decided : ℕ) where
  pub copy_facts :
      copy_good l m position cells decided ≡ true →
      (position ≤ most_decided) × (length cells ≡ m.width) × (counts cells (length cells) l.held ≡ true)
  unfolding copy_good
  copy_facts h =
      let (a, b) = and_both (leb position most_decided) _ h in
      let (d, e) = and_both (eqb (length cells) m.width) _ b in
      let (f, g) = and_both (counts cells (length cells) l.held) _ e in
      (leb-true position most_decided a, eqb-true (length cells) m.width d, f)
