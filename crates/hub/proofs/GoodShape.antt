-- Laws of good shape: which tests decide each part, and what a hub in shape is known to hold. Assumes nothing.
use Prim.Native.Nat.{ℕ, ◌%◌, ◌≤◌, ◌<◌}
use native.Mathlib.Omega.{arith}
use mathlib.Core.Bool.{true}
use mathlib.Core.Path.{◌≡◌, sym, subst, ◌∙◌}
use lib.Dec.{ltb}
use lib.ListN.{get_or}
use borrow.Author.Tests.{lt-ltb, le-ltb, ltb-true}
use Rattle.basics.specs.Counts.{counts}
use Rattle.basics.proofs.Choice.{and_both}
use Rattle.basics.proofs.Every.{every_at}
use Rattle.operation.specs.Limits.{Limits}
use Rattle.effect.specs.Replaying.{Sound}
use Rattle.state.specs.Numbers.{most_issued}
use Rattle.state.proofs.InSize.{Sizes, sizes as in_size, are_sizes}
use Rattle.state.proofs.Holding.{held_sound}
use Rattle.hub.specs.Ring.{most_kept, total, no_record, record_at}
use Rattle.hub.specs.Shape.{record_good, record_blank, place_good, ring_good, numbers_good, shaped}
use Rattle.hub.specs.declared.Hub.{Hub}
use Rattle.hub.specs.declared.Record.{Record}

module _ (l : Limits) (machines width : ℕ) (r : Record) (n i : ℕ) where
  pub place_below : i < n → place_good l machines width n i r ≡ record_good l machines width r
  unfolding place_good
  place_below h = simp (lt-ltb i n h)

  pub place_past : n ≤ i → place_good l machines width n i r ≡ record_blank r
  unfolding place_good
  place_past h = simp (le-ltb i n h)

-- what a hub in shape is known to hold
pub record Good (l : Limits) (h : Hub) : Type 0 where
  pub sizes : Sizes l h.machines h.width
  pub cells : counts h.cells h.width l.held ≡ true
  pub next : counts h.next h.machines most_issued ≡ true
  pub ring : ring_good l h.machines h.width (total h.next) h.records ≡ true
  pub numbers : numbers_good h.next h.records ≡ true

module _ (l : Limits) (h : Hub) where
  pub good : shaped l h ≡ true → Good l h
  unfolding shaped
  good e =
      let (a, b) = and_both _ _ e in
      let (c, d) = and_both _ _ b in
      let (f, g) = and_both _ _ d in
      let (i, j) = and_both _ _ g in
      record { sizes = in_size l h.machines h.width a; cells = c; next = f; ring = i; numbers = j }

  -- and a hub that holds it is in shape
  pub is_shaped : Good l h → shaped l h ≡ true
  unfolding shaped
  is_shaped g =
      simp (are_sizes l h.machines h.width g.sizes, g.cells, g.next, g.ring, g.numbers)

  -- a record that is kept names a machine, and its operation can be run
  pub kept_good :
      Good l h → (n : ℕ) → n < total h.next →
      record_good l h.machines h.width (record_at h.records n) ≡ true
  unfolding ring_good
  kept_good g n d =
      sym (place_below l h.machines h.width (record_at h.records n) (total h.next) (n % most_kept)
      (omega arith)) ∙ every_at
      (λ i. place_good l h.machines h.width (total h.next) i (get_or h.records i no_record)) most_kept
      (n % most_kept) g.ring (omega arith)

  pub kept_machine :
      Good l h → (n : ℕ) → n < total h.next → (record_at h.records n).machine < h.machines
  unfolding record_good
  kept_machine g n d =
      ltb-true (record_at h.records n).machine h.machines
      (and_both (ltb (record_at h.records n).machine h.machines) _ (kept_good g n d)).0

  pub kept_sound :
      Good l h → (n : ℕ) → n < total h.next → Sound l h.width (record_at h.records n).op
  unfolding record_good
  kept_sound g n d =
      held_sound l h.width (record_at h.records n).op
      (and_both (ltb (record_at h.records n).machine h.machines) _ (kept_good g n d)).1

  pub kept_short :
      Good l h → (n : ℕ) (r : Record) → n < total h.next → r ≡ record_at h.records n → r.op.len ≤ l.bytes
  kept_short g n r d e = subst (λ (x : Record). x.op.len ≤ l.bytes) (sym e) (kept_sound g n d).fits
