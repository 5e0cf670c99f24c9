-- What submit leaves is in shape again. Assumes nothing.
use Prim.Native.Nat.{ℕ, ◌+◌, ◌%◌, ◌<◌}
use native.Mathlib.Omega.{arith}
use mathlib.Core.Bool.{Bool, true, not, ◌&&◌}
use mathlib.Core.List.{List}
use mathlib.Core.Path.{◌≡◌, sym, ap, subst, ◌∙◌}
use lib.Dec.{ltb}
use lib.ListN.{length, set}
use borrow.Author.Tests.{ltb-true, ltb-false, not-false}
use Rattle.basics.proofs.Choice.{by_cases, and_both}
use Rattle.operation.specs.Limits.{Limits}
use Rattle.operation.specs.Reading.{well_formed}
use Rattle.effect.specs.Replaying.{after}
use Rattle.effect.specs.Running.{did}
use Rattle.effect.proofs.Keeping.{after_keeps}
use Rattle.state.specs.Numbers.{most_machines, most_issued}
use Rattle.state.proofs.KeptCounts.{counts_kept, counts_set}
use Rattle.hub.specs.Ring.{most_kept, next_of, total, decided, record_of}
use Rattle.hub.specs.Shape.{shaped, ring_good}
use Rattle.hub.specs.Submitting.{ran, taken, submit_known, submit_of}
use Rattle.hub.specs.Telling.{Submitted}
use Rattle.hub.specs.declared.Hub.{Hub}
use Rattle.hub.specs.declared.Record.{Record}
use Rattle.hub.proofs.Totals.{total_grows}
use Rattle.hub.proofs.GoodShape.{Good, good, is_shaped}
use Rattle.hub.proofs.Submitting.{is_next}
use Rattle.hub.proofs.KeptRing.{ring_kept, numbers_kept}

-- how long the arrays of a hub are
pub record Sized (h : Hub) : Type 0 where
  pub places : length h.records ≡ most_kept
  pub machines : length h.next ≡ most_machines

module _ (l : Limits) (h : Hub) (sized : Sized h) (machine : ℕ) (op : List ℕ) where
  pub taken_good :
      Good l h → machine < h.machines → next_of h machine < most_issued → well_formed l h.width op ≡ true →
      Good l (taken l h machine (next_of h machine) op (ran l h op)).hub
  unfolding taken after
  taken_good g a b w = record {
    sizes = g.sizes;
    cells = counts_kept l h.width h.cells (ran l h op).cells (after_keeps l h.width op h.cells) g.cells;
    next =
        counts_set h.next h.machines most_issued machine (next_of h machine + 1) a g.next (omega arith);
    ring = subst (λ (n : ℕ). ring_good l h.machines h.width n rs ≡ true) (sym grows)
        (ring_kept l h.machines h.width (decided h) machine (next_of h machine) op h.records sized.places a w
        g.ring);
    numbers = numbers_kept l h.next h.records machine op sized.places sized.machines within g.numbers;
  }
    where
      rs : List Record
      rs = set h.records (decided h % most_kept) (record_of l machine (next_of h machine) op)

      within : machine < most_machines
      within = omega (arith, g.sizes.machines_most)

      grows : total (set h.next machine (next_of h machine + 1)) ≡ decided h + 1
      grows = total_grows h.next machine sized.machines within

  pub submit_known_keeps :
      (number : ℕ) → shaped l h ≡ true → machine < h.machines → number < most_issued →
      well_formed l h.width op ≡ true → shaped l (submit_known l h machine number op).hub ≡ true
  unfolding submit_known
  submit_known_keeps number s a b w =
      by_cases Keeps (ltb number (next_of h machine)) (λ _. s) λ d.
      by_cases Keeps (ltb (next_of h machine) number) (λ _. s) λ e.
      let d' = ltb-false number (next_of h machine) d in
      let e' = ltb-false (next_of h machine) number e in
      let q : number ≡ next_of h machine = omega (arith, d', e') in
      subst (λ (k : ℕ). shaped l (taken l h machine k op (ran l h op)).hub ≡ true) (sym q)
      (is_shaped l (taken l h machine (next_of h machine) op (ran l h op)).hub
      (taken_good (good l h s) a (omega (arith, q)) w))
    where
      Keeps : Submitted → Type 0
      Keeps r = shaped l r.hub ≡ true

  -- what a known submit answers leaves the state in shape
  pub submit_known_leaves :
      (number : ℕ) → shaped l h ≡ true → machine < h.machines → number < most_issued →
      well_formed l h.width op ≡ true → (r : Submitted) → r ≡ submit_known l h machine number op →
      (r ≡ submit_known l h machine number op) × (shaped l r.hub ≡ true)
  submit_known_leaves number s a b w r e = (
    e,
    subst (λ (x : Submitted). shaped l x.hub ≡ true) (sym e) (submit_known_keeps number s a b w),
  )

  -- an operation that has been run on the cells and is taken: what submit tells, and the state is in shape
  pub submit_taken_leaves :
      (number : ℕ) → shaped l h ≡ true → machine < h.machines → number < most_issued →
      well_formed l h.width op ≡ true → number ≡ next_of h machine → (ok ran_ok : Bool) (cells : List ℕ) → ok ≡ ran_ok →
      did ran_ok cells ≡ ran l h op → (r : Submitted) →
      r ≡ taken l (record h { cells = cells }) machine number op (did ok cells) →
      (r ≡ submit_known l h machine number op) × (shaped l r.hub ≡ true)
  unfolding taken
  submit_taken_leaves number s a b w i ok ran_ok cells t e r f =
      let p = f ∙ is_next l h machine number op (did ok cells) i (ap (λ k. did k cells) t ∙ e) in
      submit_known_leaves number s a b w r p

  pub submit_keeps : (number : ℕ) → shaped l h ≡ true → shaped l (submit_of l h machine number op).hub ≡ true
  unfolding submit_of
  submit_keeps number s =
      by_cases Keeps (not (shaped l h)) (λ _. s) λ _.
      by_cases Keeps (not (ltb machine h.machines && ltb number most_issued)) (λ _. s) λ r.
      by_cases Keeps (not (well_formed l h.width op)) (λ _. s) λ w.
      let (a, b) = and_both (ltb machine h.machines) (ltb number most_issued) (not-false _ r) in
      submit_known_keeps number s (ltb-true _ _ a) (ltb-true _ _ b) (not-false _ w)
    where
      Keeps : Submitted → Type 0
      Keeps r = shaped l r.hub ≡ true
