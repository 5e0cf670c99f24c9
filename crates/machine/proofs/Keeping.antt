-- What each call leaves is in shape again. Assumes nothing.
use Prim.Native.Nat.{ℕ, ◌-◌, ◌<◌}
use native.Mathlib.Omega.{arith}
use mathlib.Core.Bool.{Bool, true, false, not, ◌&&◌}
use mathlib.Core.List.{List}
use mathlib.Core.Option.{Option, some, none}
use mathlib.Core.Path.{◌≡◌, refl, sym, subst}
use lib.Dec.{ltb, leb, eqb}
use lib.ListN.{length}
use borrow.Author.Tests.{ltb-true, ltb-false, leb-false, not-false}
use Rattle.basics.specs.Counts.{counts}
use Rattle.basics.proofs.Choice.{by_cases, and_both}
use Rattle.operation.specs.Limits.{Limits}
use Rattle.operation.specs.Reading.{well_formed}
use Rattle.effect.specs.Running.{filled, outcome}
use Rattle.effect.specs.Replaying.{most_queued}
use Rattle.effect.proofs.Keeping.{outcome_keeps}
use Rattle.state.specs.Numbers.{most_issued, most_decided}
use Rattle.machine.specs.Numbers.{note_count}
use Rattle.machine.specs.Shape.{shaped}
use Rattle.machine.specs.Issuing.{sold, sold_on, issue_known, issue_of}
use Rattle.machine.specs.Noting.{written, note_known, note_of}
use Rattle.machine.specs.Recording.{own_taken, other_taken, ran_agreed, as_issued, record_known, record_of}
use Rattle.machine.specs.Copying.{copied, copy_good, copy_known, copy_of}
use Rattle.machine.specs.Telling.{Issued, Noted, Taken, Copied}
use Rattle.machine.specs.declared.Machine.{Machine}
use Rattle.machine.proofs.KeptStates.{sold_good, written_good, own_good, other_good, copied_good, ran_keeps}
use Rattle.machine.proofs.GoodShape.{Good, good, is_shaped}
use Rattle.machine.proofs.Recording.{as_issued_waits}
use Rattle.machine.proofs.Copying.{copy_facts}
use Rattle.state.proofs.KeptCounts.{counts_kept, counts_filled}

-- issue
pub issue_known_keeps :
    (l : Limits) (m : Machine) (op : List ℕ) → length m.queue ≡ most_queued → shaped l m ≡ true →
    well_formed l m.width op ≡ true → shaped l (issue_known l m op).machine ≡ true
unfolding issue_known
issue_known_keeps l m op sized h w =
    by_cases Keeps (leb most_queued m.waiting) (λ _. h) λ a.
    by_cases Keeps (leb most_issued m.issued) (λ _. h) λ b.
    go (leb-false most_queued m.waiting a) (leb-false most_issued m.issued b)
    (outcome l m.width op m.guess) refl
  where
    Keeps : Issued → Type 0
    Keeps r = shaped l r.machine ≡ true

    go :
        m.waiting < most_queued → m.issued < most_issued → (o : Option (List ℕ)) →
        outcome l m.width op m.guess ≡ o → Keeps (sold_on l m op o)
    go a b (some guess) e =
        let g = good l m h in
        let k = counts_kept l m.width m.guess guess (outcome_keeps l m.width op m.guess guess e)
        g.guess in
        is_shaped l (sold l m op guess).machine (sold_good l m g sized op guess a b w k)
    go a b none e = h

-- what a known issue tells has a machine in shape
pub issue_leaves :
    (l : Limits) (m : Machine) (op : List ℕ) → length m.queue ≡ most_queued → shaped l m ≡ true →
    well_formed l m.width op ≡ true → (r : Issued) → r ≡ issue_known l m op → shaped l r.machine ≡ true
issue_leaves l m op sized h w r e =
    subst (λ (x : Issued). shaped l x.machine ≡ true) (sym e) (issue_known_keeps l m op sized h w)

pub issue_keeps :
    (l : Limits) (m : Machine) (op : List ℕ) → length m.queue ≡ most_queued → shaped l m ≡ true →
    shaped l (issue_of l m op).machine ≡ true
unfolding issue_of
issue_keeps l m op sized h =
    by_cases Keeps (not (shaped l m)) (λ _. h) λ _.
    by_cases Keeps (not (well_formed l m.width op)) (λ _. h) λ w.
    issue_known_keeps l m op sized h (not-false (well_formed l m.width op) w)
  where
    Keeps : Issued → Type 0
    Keeps r = shaped l r.machine ≡ true

-- note
pub note_known_keeps :
    (l : Limits) (m : Machine) (k i : ℕ) → shaped l m ≡ true → shaped l (note_known m k i).machine ≡ true
unfolding note_known
note_known_keeps l m k i h =
    by_cases Keeps (ltb k note_count && ltb i m.width)
    (λ t. is_shaped l (written m k i).machine
    (written_good l m k i (good l m h) (ltb-true k note_count (and_both (ltb k note_count) (ltb i m.width) t).0)))
    (λ _. h)
  where
    Keeps : Noted → Type 0
    Keeps r = shaped l r.machine ≡ true

pub note_leaves :
    (l : Limits) (m : Machine) (k i : ℕ) → shaped l m ≡ true → (r : Noted) → r ≡ note_known m k i →
    shaped l r.machine ≡ true
note_leaves l m k i h r e = subst (λ (x : Noted). shaped l x.machine ≡ true) (sym e) (note_known_keeps l m k i h)

pub note_keeps :
    (l : Limits) (m : Machine) (k i : ℕ) → shaped l m ≡ true → shaped l (note_of l m k i).machine ≡ true
unfolding note_of
note_keeps l m k i h = by_cases Keeps (not (shaped l m)) (λ _. h) λ _. note_known_keeps l m k i h
  where
    Keeps : Noted → Type 0
    Keeps r = shaped l r.machine ≡ true

-- take a record
pub record_known_keeps :
    (l : Limits) (m : Machine) (n who number : ℕ) (op : List ℕ) → length m.queue ≡ most_queued →
    shaped l m ≡ true → n < most_decided → shaped l (record_known l m n who number op).machine ≡ true
unfolding record_known
record_known_keeps l m n who number op sized h d =
    by_cases Keeps (ltb n m.position) (λ _. h) λ a.
    by_cases Keeps (ltb m.position n) (λ _. h) λ b.
    by_cases Keeps (not (eqb who m.me))
    (λ _. is_shaped l (other_taken l m (ran_agreed l m op).cells).machine
    (other_good l m (ran_agreed l m op).cells g (below a) agreed))
    λ _.
    by_cases Keeps (as_issued m number op)
    (λ t. is_shaped l (own_taken l m (ran_agreed l m op)).machine
    (own_good l m (ran_agreed l m op) g sized (as_issued_waits m number op t) (below a) agreed))
    (λ _. h)
  where
    Keeps : Taken → Type 0
    Keeps r = shaped l r.machine ≡ true

    g : Good l m
    g = good l m h

    agreed : counts (ran_agreed l m op).cells m.width l.held ≡ true
    agreed =
        counts_kept l m.width m.agreed (ran_agreed l m op).cells (ran_keeps l m.width op m.agreed)
        g.agreed

    below : ltb n m.position ≡ false → m.position < most_decided
    below a = omega (arith, ltb-false n m.position a)

pub record_leaves :
    (l : Limits) (m : Machine) (n who number : ℕ) (op : List ℕ) → length m.queue ≡ most_queued →
    shaped l m ≡ true → n < most_decided → (r : Taken) → r ≡ record_known l m n who number op →
    shaped l r.machine ≡ true
record_leaves l m n who number op sized h d r e =
    subst (λ (x : Taken). shaped l x.machine ≡ true) (sym e)
    (record_known_keeps l m n who number op sized h d)

pub record_keeps :
    (l : Limits) (m : Machine) (n who number : ℕ) (op : List ℕ) → length m.queue ≡ most_queued →
    shaped l m ≡ true → shaped l (record_of l m n who number op).machine ≡ true
unfolding record_of
record_keeps l m n who number op sized h =
    by_cases Keeps (not (shaped l m)) (λ _. h) λ _.
    by_cases Keeps (not range) (λ _. h) λ r.
    by_cases Keeps (not (well_formed l m.width op)) (λ _. h) λ _.
    let low = (and_both (ltb who m.machines) (ltb number most_issued && ltb n most_decided) (not-false range r)).1 in
    record_known_keeps l m n who number op sized h
    (ltb-true n most_decided (and_both (ltb number most_issued) (ltb n most_decided) low).1)
  where
    Keeps : Taken → Type 0
    Keeps r = shaped l r.machine ≡ true

    range : Bool
    range = ltb who m.machines && (ltb number most_issued && ltb n most_decided)

-- take a copy
pub copy_known_keeps :
    (l : Limits) (m : Machine) (position : ℕ) (cells : List ℕ) (decided : ℕ) → length m.queue ≡ most_queued →
    shaped l m ≡ true → copy_good l m position cells decided ≡ true →
    shaped l (copy_known l m position cells decided).machine ≡ true
unfolding copy_known
copy_known_keeps l m position cells decided sized h r =
    by_cases Keeps (leb position m.position) (λ _. h) λ _.
    by_cases Keeps (ltb decided m.done) (λ _. h) λ a.
    by_cases Keeps (ltb m.issued decided) (λ _. h) λ b.
    let f = copy_facts l m position cells decided r in
    let d = ltb-false decided m.done a in
    let i = ltb-false m.issued decided b in
    let g = good l m h in
    is_shaped l (copied l m position (filled l cells) (decided - m.done)).machine
    (copied_good l m position (filled l cells) (decided - m.done) g sized f.0 (omega (arith, g.queue_is))
    (counts_filled l m.width cells f.1 f.2))
  where
    Keeps : Copied → Type 0
    Keeps r = shaped l r.machine ≡ true

pub copy_leaves :
    (l : Limits) (m : Machine) (position : ℕ) (cells : List ℕ) (decided : ℕ) → length m.queue ≡ most_queued →
    shaped l m ≡ true → copy_good l m position cells decided ≡ true → (r : Copied) →
    r ≡ copy_known l m position cells decided → shaped l r.machine ≡ true
copy_leaves l m position cells decided sized h g r e =
    subst (λ (x : Copied). shaped l x.machine ≡ true) (sym e)
    (copy_known_keeps l m position cells decided sized h g)

pub copy_keeps :
    (l : Limits) (m : Machine) (position : ℕ) (cells : List ℕ) (decided : ℕ) → length m.queue ≡ most_queued →
    shaped l m ≡ true → shaped l (copy_of l m position cells decided).machine ≡ true
unfolding copy_of
copy_keeps l m position cells decided sized h =
    by_cases Keeps (not (shaped l m)) (λ _. h) λ _.
    by_cases Keeps (not (copy_good l m position cells decided)) (λ _. h) λ r.
    copy_known_keeps l m position cells decided sized h (not-false (copy_good l m position cells decided) r)
  where
    Keeps : Copied → Type 0
    Keeps r = shaped l r.machine ≡ true
