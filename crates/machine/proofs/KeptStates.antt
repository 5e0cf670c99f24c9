-- The state that each call makes is in shape again. Assumes nothing.
use Prim.Native.Nat.{ℕ, ◌+◌, ◌-◌, ◌≤◌, ◌<◌, zero-le}
use native.Mathlib.Omega.{arith}
use mathlib.Core.Bool.{Bool, true, false, not}
use mathlib.Core.List.{List}
use mathlib.Core.Path.{◌≡◌, refl}
use lib.ListN.{length, get_or, replicate, get_or-replicate}
use borrow.Author.Tests.{lt-ltb}
use Rattle.basics.specs.Counts.{counts}
use Rattle.basics.proofs.Every.{every_all}
use Rattle.operation.specs.Limits.{Limits}
use Rattle.operation.specs.Packing.{empty, nothing}
use Rattle.operation.specs.Reading.{well_formed}
use Rattle.effect.specs.Running.{bit, cell, filled, outcome, Came, came}
use Rattle.effect.specs.Replaying.{after, replay, queued, most_queued}
use Rattle.effect.proofs.Keeping.{Kept, after_keeps, replay_keeps}
use Rattle.state.specs.Numbers.{most_issued, most_decided}
use Rattle.machine.specs.Numbers.{note_count}
use Rattle.machine.specs.Shape.{sales_good, place_good, shaped}
use Rattle.state.specs.Sizes.{sizes_good}
use Rattle.machine.specs.Starting.{started, zero_machine}
use Rattle.machine.specs.Issuing.{sold}
use Rattle.machine.specs.Noting.{written}
use Rattle.machine.specs.Recording.{own_taken, other_taken}
use Rattle.machine.specs.Copying.{copied}
use Rattle.machine.specs.Queueing.{advanced}
use Rattle.machine.specs.declared.Machine.{Machine}
use Rattle.machine.proofs.GoodShape.{Good}
use Rattle.state.proofs.KeptCounts.{cell_most, counts_kept, counts_set, counts_filled, counts_none}
use Rattle.machine.proofs.KeptPlaces.{blank_place, places_advanced, places_joined}

-- one more heard of is kept or lost
one_more :
    (ok : Bool) (kept lost unheard done : ℕ) → kept + (lost + unheard) ≡ done →
    kept + bit ok + (lost + bit (not ok) + unheard) ≡ done + 1
one_more true kept lost unheard done h = omega arith
one_more false kept lost unheard done h = omega arith

-- running on the agreed cells keeps what running keeps
pub ran_keeps : (l : Limits) (width : ℕ) (op c : List ℕ) → Kept l width c (came c (outcome l width op c)).cells
unfolding after
ran_keeps l width op c = after_keeps l width op c

-- a sale
pub sold_good :
    (l : Limits) (m : Machine) → Good l m → length m.queue ≡ most_queued → (op guess : List ℕ) → m.waiting < most_queued → m.issued < most_issued → well_formed l m.width op ≡ true →
    counts guess m.width l.held ≡ true → Good l (sold l m op guess).machine
unfolding sold
sold_good l m g sized op guess a b w k = record {
  sizes = g.sizes;
  own = g.own;
  queue_most = omega arith;
  issued_most = omega arith;
  queue_is = omega (arith, g.queue_is);
  heard = g.heard;
  position_most = g.position_most;
  agreed = g.agreed;
  guess = k;
  notes = g.notes;
  places = places_joined l m g sized op a w;
}

-- note
pub written_good : (l : Limits) (m : Machine) (k i : ℕ) → Good l m → k < note_count → Good l (written m k i).machine
unfolding written
written_good l m k i g h = record {
  sizes = g.sizes;
  own = g.own;
  queue_most = g.queue_most;
  issued_most = g.issued_most;
  queue_is = g.queue_is;
  heard = g.heard;
  position_most = g.position_most;
  agreed = g.agreed;
  guess = g.guess;
  notes =
      counts_set m.notes note_count l.held k (cell m.guess i) h g.notes
      (cell_most l m.width m.guess g.guess i);
  places = g.places;
}

-- an own record
pub own_good :
    (l : Limits) (m : Machine) (ran : Came) → Good l m → length m.queue ≡ most_queued → 1 ≤ m.waiting → m.position < most_decided →
    counts ran.cells m.width l.held ≡ true → Good l (own_taken l m ran).machine
unfolding own_taken
own_good l m ran g sized a b k = record {
  sizes = g.sizes;
  own = g.own;
  queue_most = omega (arith, g.queue_most);
  issued_most = g.issued_most;
  queue_is = omega (arith, g.queue_is);
  heard = one_more ran.ok m.kept m.lost m.unheard m.done g.heard;
  position_most = omega arith;
  agreed = k;
  guess = g.guess;
  notes = g.notes;
  places = places_advanced l m g sized 1 a;
}

-- another's
pub other_good :
    (l : Limits) (m : Machine) (cells : List ℕ) → Good l m → m.position < most_decided →
    counts cells m.width l.held ≡ true → Good l (other_taken l m cells).machine
unfolding other_taken
other_good l m cells g b k = record {
  sizes = g.sizes;
  own = g.own;
  queue_most = g.queue_most;
  issued_most = g.issued_most;
  queue_is = g.queue_is;
  heard = g.heard;
  position_most = omega arith;
  agreed = k;
  guess =
      counts_kept l m.width cells (replay l m.width (queued m.waiting m.queue) cells)
      (replay_keeps l m.width (queued m.waiting m.queue) cells) k;
  notes = g.notes;
  places = g.places;
}

-- a copy
pub copied_good :
    (l : Limits) (m : Machine) (position : ℕ) (cells : List ℕ) (left : ℕ) → Good l m → length
    m.queue ≡ most_queued →
    position ≤ most_decided → left ≤ m.waiting → counts cells m.width l.held ≡ true →
    Good l (copied l m position cells left).machine
unfolding copied
copied_good l m position cells left g sized a b k = record {
  sizes = g.sizes;
  own = g.own;
  queue_most = omega (arith, g.queue_most);
  issued_most = g.issued_most;
  queue_is = omega (arith, g.queue_is);
  heard = omega (arith, g.heard);
  position_most = a;
  agreed = k;
  guess = counts_kept l m.width cells (replay l m.width rest cells) (replay_keeps l m.width rest cells) k;
  notes = g.notes;
  places = places_advanced l m g sized left b;
}
  where
    rest : List (List ℕ)
    rest = queued (m.waiting - left) (advanced l left m.queue)

-- a fresh machine is in shape, and the all-zero one is not
pub fresh_shaped :
    (l : Limits) (machines me : ℕ) (first : List ℕ) → sizes_good l machines (length first) ≡ true →
    me < machines → counts first (length first) l.held ≡ true →
    shaped l (started l machines (length first) me (filled l first)) ≡ true
unfolding shaped sales_good
fresh_shaped l machines me first s own k =
    let c = counts_filled l (length first) first refl k in
    simp (
      s,
      lt-ltb me machines own,
      c,
      counts_none note_count note_count l.held,
      every_all
          (λ i. place_good l (length first) 0 i (get_or (replicate most_queued (empty l)) i nothing)) most_queued
          (λ i h. rw (get_or-replicate most_queued i (empty l) nothing h) (blank_place l (length first) 0 i zero-le)),
    )

pub zero_not_shaped : (l : Limits) → shaped l (zero_machine l) ≡ false
unfolding shaped sizes_good
zero_not_shaped l = refl
