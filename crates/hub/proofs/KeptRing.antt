-- A submission that is taken keeps the ring in shape. Assumes nothing.
use Prim.Native.Nat.{ℕ, ◌+◌, ◌-◌, ◌%◌, ◌<◌}
use native.Mathlib.Omega.{arith}
use mathlib.Core.Bool.{Bool, true, false}
use mathlib.Core.List.{List}
use mathlib.Core.Path.{◌≡◌, refl, ap, ◌∙◌}
use lib.Dec.{ltb, eqb}
use lib.ListN.{length, get_or, set}
use lib.Seq.{get_or-set_same, get_or-set_other, set-set, set-get_or}
use borrow.Author.Tests.{lt-ltb, eqb-true, eqb-false, ltb-true, ltb-false, le-ltb}
use Rattle.basics.proofs.Every.{every_at, every_all}
use Rattle.operation.specs.Limits.{Limits}
use Rattle.operation.specs.Reading.{well_formed}
use Rattle.state.specs.Numbers.{most_machines}
use Rattle.state.proofs.Holding.{packed_held}
use Rattle.hub.specs.Ring.{most_kept, total, kept_count, record_of, no_record, record_at}
use Rattle.hub.specs.Shape.{record_good, place_good, numbered, ring_good, numbers_good}
use Rattle.hub.specs.declared.Record.{Record}
use Rattle.hub.proofs.Totals.{total_grows}
use Rattle.hub.proofs.GoodShape.{place_below}
use Rattle.hub.proofs.Numbering.{step, fewer, alike, follows_so}

-- a new record, and a place other than the new one's
record_new :
    (l : Limits) (machines width m number : ℕ) (op : List ℕ) → m < machines → well_formed l width op ≡ true →
    record_good l machines width (record_of l m number op) ≡ true
unfolding record_good
record_new l machines width m number op a w = simp (lt-ltb m machines a, packed_held l width op w)

place_old :
    (l : Limits) (machines width n i : ℕ) (r : Record) → (i ≡ n → ⊥) →
    place_good l machines width (n + 1) i r ≡ place_good l machines width n i r
unfolding place_good
place_old l machines width n i r q = go (ltb i n) refl
  where
    go : (t : Bool) → ltb i n ≡ t → place_good l machines width (n + 1) i r ≡ place_good l machines width n i r
    go true e = let f = ltb-true i n e in simp (e, lt-ltb i (n + 1) (omega arith))
    go false e = let f = ltb-false i n e in simp (e, le-ltb i (n + 1) (omega arith))

-- the ring with record n at its place: the record, and every other that is still kept
module _ (records : List Record) (n : ℕ) (new : Record) (places : length records ≡ most_kept) where
  pub at_new : record_at (set records (n % most_kept) new) n ≡ new
  at_new = get_or-set_same records (n % most_kept) new no_record (omega (arith, places))

  pub at_other : (j : ℕ) → j < n → n < j + most_kept → record_at (set records (n % most_kept) new) j ≡ record_at records j
  at_other j a b =
      get_or-set_other records (n % most_kept) (j % most_kept) new no_record (λ e. omega (arith, e))

pub ring_kept :
    (l : Limits) (machines width n m number : ℕ) (op : List ℕ) (records : List Record) →
    length records ≡ most_kept → m < machines → well_formed l width op ≡ true →
    ring_good l machines width n records ≡ true →
    ring_good l machines width (n + 1) (set records (n % most_kept) (record_of l m number op)) ≡ true
unfolding ring_good
ring_kept l machines width n m number op records places a w h =
    every_all (λ i. place_good l machines width (n + 1) i (get_or (set records (n % most_kept) new) i no_record)) most_kept
    (λ i lt. go i lt (eqb i (n % most_kept)) refl)
  where
    new : Record
    new = record_of l m number op

    go :
        (i : ℕ) → i < most_kept → (t : Bool) → eqb i (n % most_kept) ≡ t →
        place_good l machines width (n + 1) i (get_or (set records (n % most_kept) new) i no_record) ≡ true
    go i lt true e =
        let f = eqb-true i (n % most_kept) e in
        ap (place_good l machines width (n + 1) i)
        (ap (λ x. get_or (set records (n % most_kept) new) x no_record) f ∙ get_or-set_same records (n % most_kept) new
        no_record (omega (arith, places))) ∙ (place_below l machines width new (n + 1) i (omega (arith, f)) ∙
        record_new l machines width m number op a w)
    go i lt false e =
        let f = eqb-false i (n % most_kept) e in
        ap (place_good l machines width (n + 1) i) (get_or-set_other records (n % most_kept) i new no_record f) ∙
        (place_old l machines width n i (get_or records i no_record) (λ q. f (omega (arith, q))) ∙ every_at
        (λ j. place_good l machines width n j (get_or records j no_record)) most_kept i h lt)

-- the walk begins at the new record, and goes on as it did before
walk :
    (l : Limits) (next : List ℕ) (records : List Record) (m : ℕ) (op : List ℕ) (n : ℕ) →
    length records ≡ most_kept → length next ≡ most_machines → m < most_machines →
    numbered records (kept_count n) n next ≡ true → (d : ℕ) → d ≡ n + 1 →
    numbered (set records (n % most_kept) (record_of l m (get_or next m 0) op)) (kept_count d) d
    (set next m (get_or next m 0 + 1)) ≡ true
walk l next records m op n places machines a h d q =
    let p : d - 1 ≡ n = omega arith in
    let x : (kept_count d - 1) + (kept_count n - (kept_count d - 1)) ≡ kept_count n = omega arith in
    step rs (kept_count d) d (set next m (get_or next m 0 + 1)) (omega arith) ∙
    rw (
      p,
      at_new records n new places,
      follows_so (set next m (get_or next m 0 + 1)) new m refl
          (get_or-set_same next m (get_or next m 0 + 1) 0 (omega (arith, machines))),
      set-set next m (get_or next m 0 + 1) (get_or next m 0),
      set-get_or next m 0,
    )
    (alike records rs (kept_count d - 1) n next (omega arith) (λ j b c. at_other records n new places j b (omega
    arith)) ∙
    fewer records (kept_count d - 1) (kept_count n - (kept_count d - 1)) n next (rw x h))
  where
    new : Record
    new = record_of l m (get_or next m 0) op

    rs : List Record
    rs = set records (n % most_kept) new

pub numbers_kept :
    (l : Limits) (next : List ℕ) (records : List Record) (m : ℕ) (op : List ℕ) → length records ≡ most_kept →
    length next ≡ most_machines → m < most_machines → numbers_good next records ≡ true →
    numbers_good (set next m (get_or next m 0 + 1))
    (set records (total next % most_kept) (record_of l m (get_or next m 0) op)) ≡ true
unfolding numbers_good
numbers_kept l next records m op places machines a h =
    walk l next records m op (total next) places machines a h (total (set next m (get_or next m 0 + 1)))
    (total_grows next m machines a)
