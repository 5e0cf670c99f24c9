-- Laws of the queue's places that calls keep. Assumes nothing.
use Prim.Native.Nat.{ℕ, ◌+◌, ◌-◌, ◌≤◌, ◌<◌}
use native.Mathlib.Omega.{arith}
use mathlib.Core.Bool.{Bool, true, false}
use mathlib.Core.List.{List, ◌++◌}
use mathlib.Core.Path.{◌≡◌, refl, sym, ◌∙◌}
use lib.Dec.{ltb, eqb}
use lib.ListN.{length, get_or, set, drop, replicate, length-drop, get_or-replicate, get_or-append}
use lib.Seq.{get_or-set_same, get_or-set_other, get_or-drop, get_or-append-add}
use borrow.Author.Tests.{ltb-true, ltb-false, eqb-true, eqb-false}
use Rattle.std.proofs.lemmas.Bool.Decides.{nat_tests}
use Rattle.basics.specs.Every.{every}
use Rattle.basics.proofs.Every.{every_at, every_all}
use Rattle.operation.specs.Limits.{Limits}
use Rattle.operation.specs.Packing.{packed, empty, nothing}
use Rattle.operation.specs.Reading.{well_formed}
use Rattle.operation.specs.declared.Packed.{Packed}
use Rattle.effect.specs.Replaying.{most_queued}
use Rattle.machine.specs.Shape.{place_good}
use Rattle.machine.specs.Queueing.{advanced}
use Rattle.machine.specs.declared.Machine.{Machine}
use Rattle.state.proofs.Holding.{packed_held, empty_blank}
use Rattle.machine.proofs.GoodShape.{Good, place_below, place_past}

-- a place keeps its shape when the queue's length and its own place fall by as many
place_moved :
    (l : Limits) (width waiting n i : ℕ) (o : Packed) → n ≤ waiting →
    place_good l width waiting (n + i) o ≡ place_good l width (waiting - n) i o
unfolding place_good
place_moved l width waiting n i o h = grind (arith, nat_tests)

pub blank_place : (l : Limits) (width waiting i : ℕ) → waiting ≤ i → place_good l width waiting i (empty l) ≡ true
blank_place l width waiting i h = place_past l width waiting i (empty l) h ∙ empty_blank l

-- a place other than the last keeps its shape when the queue grows
place_longer :
    (l : Limits) (width waiting i : ℕ) (o : Packed) → (i ≡ waiting → ⊥) →
    place_good l width (waiting + 1) i o ≡ place_good l width waiting i o
unfolding place_good
place_longer l width waiting i o h = grind (arith, nat_tests)

module _ (l : Limits) (m : Machine) (g : Good l m) (sized : length m.queue ≡ most_queued) where
  abbrev Places : ℕ → List Packed → Type 0
  Places waiting queue = every most_queued (λ i. place_good l m.width waiting i (get_or queue i nothing)) ≡ true

  old_place : (i : ℕ) → i < most_queued → place_good l m.width m.waiting i (get_or m.queue i nothing) ≡ true
  old_place i h =
      every_at (λ j. place_good l m.width m.waiting j (get_or m.queue j nothing)) most_queued i g.places h

  -- the queue after some have left
  pub places_advanced : (n : ℕ) → n ≤ m.waiting → Places (m.waiting - n) (advanced l n m.queue)
  unfolding advanced
  places_advanced n h =
      every_all
      (λ i. place_good l m.width (m.waiting - n) i (get_or (drop n m.queue ++ replicate n (empty l)) i nothing))
      most_queued (λ i lt. go i lt (ltb (n + i) most_queued) refl)
    where
      blank_there :
          (i : ℕ) → i < most_queued → most_queued ≤ n + i →
          get_or (drop n m.queue ++ replicate n (empty l)) i nothing ≡ empty l
      blank_there i lt f =
          let k = length (drop n m.queue) in
          let e : k ≡ most_queued - n = simp length-drop (omega arith) in
          let a : k + (i - k) ≡ i = omega (arith, e) in
          (rw a at (get_or-append-add (drop n m.queue) (replicate n (empty l)) (i - k) nothing)) ∙ get_or-replicate n
          (i - k) (empty l) nothing (omega (arith, e))

      go :
          (i : ℕ) → i < most_queued → (t : Bool) → ltb (n + i) most_queued ≡ t →
          place_good l m.width (m.waiting - n) i
          (get_or (drop n m.queue ++ replicate n (empty l)) i nothing) ≡ true
      go i lt true e =
          let f = ltb-true (n + i) most_queued e in
          rw (
            get_or-append (drop n m.queue) (replicate n (empty l)) nothing i (simp length-drop (omega arith)),
            get_or-drop n m.queue i nothing,
          )
          (sym (place_moved l m.width m.waiting n i (get_or m.queue (n + i) nothing) h) ∙ old_place (n + i)
          f)
      go i lt false e =
          let f = ltb-false (n + i) most_queued e in
          rw (blank_there i lt f) (blank_place l m.width (m.waiting - n) i (omega (arith, g.queue_most)))

  -- the queue after one has joined
  pub places_joined :
      (op : List ℕ) → m.waiting < most_queued → well_formed l m.width op ≡ true →
      Places (m.waiting + 1) (set m.queue m.waiting (packed l op))
  places_joined op a w =
      every_all
      (λ i. place_good l m.width (m.waiting + 1) i (get_or (set m.queue m.waiting (packed l op)) i nothing))
      most_queued (λ i lt. go i lt (eqb i m.waiting) refl)
    where
      joined : place_good l m.width (m.waiting + 1) m.waiting (packed l op) ≡ true
      joined =
          place_below l m.width (m.waiting + 1) m.waiting (packed l op) (omega arith) ∙ packed_held l
          m.width op w

      go :
          (i : ℕ) → i < most_queued → (t : Bool) → eqb i m.waiting ≡ t →
          place_good l m.width (m.waiting + 1) i
          (get_or (set m.queue m.waiting (packed l op)) i nothing) ≡ true
      go i lt true e =
          let f = eqb-true i m.waiting e in
          rw (f, get_or-set_same m.queue m.waiting (packed l op) nothing (omega arith)) joined
      go i lt false e =
          let f = eqb-false i m.waiting e in
          rw (get_or-set_other m.queue m.waiting i (packed l op) nothing f)
          (place_longer l m.width m.waiting i (get_or m.queue i nothing) f ∙ old_place i lt)
