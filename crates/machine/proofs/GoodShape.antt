-- Laws of good shape: which tests decide each part, and what a machine in shape is known to hold. Assumes nothing.
use Prim.Native.Nat.{ℕ, ◌+◌, ◌≤◌, ◌<◌}
use mathlib.Core.Bool.{true}
use mathlib.Core.Path.{◌≡◌}
use lib.ListN.{get_or}
use borrow.Author.Tests.{lt-ltb, le-ltb, le-leb, eq-eqb, leb-true, ltb-true, eqb-true}
use Rattle.basics.specs.Every.{every}
use Rattle.basics.specs.Counts.{counts}
use Rattle.basics.proofs.Choice.{and_both}
use Rattle.operation.specs.Limits.{Limits}
use Rattle.operation.specs.Packing.{nothing}
use Rattle.operation.specs.declared.Packed.{Packed}
use Rattle.effect.specs.Replaying.{most_queued}
use Rattle.state.specs.Holding.{holds, blank}
use Rattle.state.proofs.InSize.{Sizes, sizes as in_size, are_sizes}
use Rattle.state.specs.Numbers.{most_issued, most_decided}
use Rattle.machine.specs.Numbers.{note_count}
use Rattle.machine.specs.Shape.{sales_good, place_good, shaped}
use Rattle.machine.specs.declared.Machine.{Machine}

-- a place of the queue
module _ (l : Limits) (width waiting i : ℕ) (o : Packed) where
  pub place_below : i < waiting → place_good l width waiting i o ≡ holds l width o
  unfolding place_good
  place_below h = simp (lt-ltb i waiting h)

  pub place_past : waiting ≤ i → place_good l width waiting i o ≡ blank o
  unfolding place_good
  place_past h = simp (le-ltb i waiting h)

-- what a machine in shape is known to hold
pub record Good (l : Limits) (m : Machine) : Type 0 where
  pub sizes : Sizes l m.machines m.width
  pub own : m.me < m.machines
  pub queue_most : m.waiting ≤ most_queued
  pub issued_most : m.issued ≤ most_issued
  pub queue_is : m.done + m.waiting ≡ m.issued
  pub heard : m.kept + (m.lost + m.unheard) ≡ m.done
  pub position_most : m.position ≤ most_decided
  pub agreed : counts m.agreed m.width l.held ≡ true
  pub guess : counts m.guess m.width l.held ≡ true
  pub notes : counts m.notes note_count l.held ≡ true
  pub places :
      every most_queued (λ i. place_good l m.width m.waiting i (get_or m.queue i nothing)) ≡ true

module _ (l : Limits) (m : Machine) where
  pub good : shaped l m ≡ true → Good l m
  unfolding shaped sales_good
  good h =
      let (sizes, o) = and_both _ _ h in
      let (own, a) = and_both _ _ o in
      let (sales, b) = and_both _ _ a in
      let (position, d) = and_both _ _ b in
      let (agreed, e) = and_both _ _ d in
      let (guess, f) = and_both _ _ e in
      let (notes, queue) = and_both _ _ f in
      let (q1, t2) = and_both _ _ sales in
      let (i1, t3) = and_both _ _ t2 in
      let (q2, heard) = and_both _ _ t3 in
      record {
        sizes = in_size l m.machines m.width sizes;
        own = ltb-true _ _ own;
        queue_most = leb-true _ _ q1;
        issued_most = leb-true _ _ i1;
        queue_is = eqb-true _ _ q2;
        heard = eqb-true _ _ heard;
        position_most = leb-true _ _ position;
        agreed = agreed;
        guess = guess;
        notes = notes;
        places = queue;
      }

  -- and a machine that holds it is in shape
  pub is_shaped : Good l m → shaped l m ≡ true
  unfolding shaped sales_good
  is_shaped g =
      simp (
        are_sizes l m.machines m.width g.sizes,
        lt-ltb _ _ g.own,
        le-leb _ _ g.queue_most,
        le-leb _ _ g.issued_most,
        eq-eqb _ _ g.queue_is,
        eq-eqb _ _ g.heard,
        le-leb _ _ g.position_most,
        g.agreed,
        g.guess,
        g.notes,
        g.places,
      )
