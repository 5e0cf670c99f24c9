-- What good sizes say. Assumes nothing.
use Prim.Native.Nat.{ℕ, ◌≤◌}
use mathlib.Core.Bool.{true}
use mathlib.Core.Path.{◌≡◌}
use lib.Dec.{leb}
use borrow.Author.Tests.{le-leb, leb-true}
use Rattle.basics.proofs.Choice.{and_both}
use Rattle.operation.specs.Limits.{Limits}
use Rattle.state.specs.Numbers.{most_machines}
use Rattle.state.specs.Sizes.{sizes_good}

pub record Sizes (l : Limits) (machines width : ℕ) : Type 0 where
  pub machines_least : 1 ≤ machines
  pub machines_most : machines ≤ most_machines
  pub width_least : 1 ≤ width
  pub width_most : width ≤ l.cells

module _ (l : Limits) (machines width : ℕ) where
  pub sizes : sizes_good l machines width ≡ true → Sizes l machines width
  unfolding sizes_good
  sizes h =
      let (a, b) = and_both (leb 1 machines) _ h in
      let (c, d) = and_both (leb machines most_machines) _ b in
      let (e, f) = and_both (leb 1 width) _ d in
      record {
        machines_least = leb-true _ _ a;
        machines_most = leb-true _ _ c;
        width_least = leb-true _ _ e;
        width_most = leb-true _ _ f;
      }

  pub are_sizes : Sizes l machines width → sizes_good l machines width ≡ true
  unfolding sizes_good
  are_sizes s =
      simp (
        le-leb _ _ s.machines_least,
        le-leb _ _ s.machines_most,
        le-leb _ _ s.width_least,
        le-leb _ _ s.width_most,
      )
