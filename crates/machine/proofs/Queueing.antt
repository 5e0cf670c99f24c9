-- Laws of the queue: what leaves, what moves up, and that what is left can be replayed. Assumes nothing.
use Prim.Native.Nat.{ℕ, ◌+◌, ◌-◌, ◌≤◌, ◌<◌}
use native.Mathlib.Omega.{arith}
use mathlib.Core.Bool.{Bool, true, false}
use mathlib.Core.List.{List}
use mathlib.Core.Path.{◌≡◌, refl, sym, ◌∙◌}
use lib.Dec.{leb}
use lib.ListN.{length, get_or, drop, replicate, length-drop, get_or-eq_default, get_or-append}
use lib.Seq.{take_all, get_or-drop}
use Rattle.std.proofs.lemmas.List.{drop-replicate}
use borrow.Author.Tests.{leb-true, leb-false}
use Rattle.basics.specs.Over.{over}
use Rattle.basics.proofs.Every.{every_at}
use Rattle.operation.specs.Limits.{Limits}
use Rattle.operation.specs.Packing.{empty, nothing}
use Rattle.operation.specs.declared.Packed.{Packed}
use Rattle.operation.proofs.WellFormed.{no_bytes}
use Rattle.effect.specs.Replaying.{most_queued, Sound, Ready}
use Rattle.machine.specs.Shape.{place_good}
use Rattle.machine.specs.Queueing.{advanced}
use Rattle.machine.specs.declared.Machine.{Machine}
use Rattle.state.proofs.Holding.{held_sound}
use Rattle.machine.proofs.GoodShape.{Good, place_below}

-- those that are left, over the start of an empty queue
pub advance_end :
    (l : Limits) (n : ℕ) (queue : List Packed) → n ≤ most_queued → length queue ≡ most_queued →
    over (most_queued - n) (drop n queue) (replicate most_queued (empty l)) ≡ advanced l n queue
unfolding advanced
advance_end l n queue h e =
    let k : most_queued - (most_queued - n) ≡ n = omega arith in
    let d : drop (most_queued - n) (replicate most_queued (empty l)) ≡ replicate n (empty l) = rw k at
    (drop-replicate (most_queued - n) most_queued (empty l)) in
    rw (take_all (most_queued - n) (drop n queue) (simp length-drop (omega arith)), d)

-- a place of the queue that is full holds a sound operation
pub place_sound :
    (l : Limits) (width waiting i : ℕ) (o : Packed) → i < waiting → place_good l width waiting i o ≡ true →
    Sound l width o
place_sound l width waiting i o h e = held_sound l width o (sym (place_below l width waiting i o h) ∙ e)

-- and stands in the queue
pub sound_there :
    (l : Limits) (width : ℕ) (queue : List Packed) (i : ℕ) → Sound l width (get_or queue i nothing) → i < length queue
sound_there l width queue i s = go (leb (length queue) i) refl
  where
    go : (t : Bool) → leb (length queue) i ≡ t → i < length queue
    go true e =
        let f = get_or-eq_default queue nothing (leb-true (length queue) i e) in
        absurd (no_bytes l width (rw f at s.formed))
    go false e = leb-false (length queue) i e

module _ (l : Limits) (m : Machine) (g : Good l m) where
  pub sound_at : (i : ℕ) → i < m.waiting → Sound l m.width (get_or m.queue i nothing)
  sound_at i h =
      place_sound l m.width m.waiting i (get_or m.queue i nothing) h
      (every_at (λ j. place_good l m.width m.waiting j (get_or m.queue j nothing)) most_queued i g.places
      (omega (arith, g.queue_most)))

  pub ready : Ready l m.width m.waiting m.queue
  ready = record { there = g.queue_most; sound = sound_at }

  pub moved_up :
      (n i : ℕ) → n + i < m.waiting → get_or (advanced l n m.queue) i nothing ≡ get_or m.queue (n + i) nothing
  unfolding advanced
  moved_up n i h =
      let there = sound_there l m.width m.queue (n + i) (sound_at (n + i) h) in
      get_or-append (drop n m.queue) (replicate n (empty l)) nothing i (simp length-drop (omega arith)) ∙
      get_or-drop n m.queue i nothing

  pub ready_rest : (n : ℕ) → n ≤ m.waiting → Ready l m.width (m.waiting - n) (advanced l n m.queue)
  ready_rest n h = record {
    there = omega (arith, g.queue_most);
    sound = λ i k. rw (moved_up n i (omega arith)) (sound_at (n + i) (omega arith));
  }
