-- A submission that is taken makes the history one entry longer; one that is refused changes nothing. Assumes nothing.
use Prim.Native.Nat.{ℕ, ◌+◌, ◌%◌, ◌≤◌, ◌<◌}
use native.Mathlib.Nat.{eq-or-lt_of_le}
use native.Mathlib.Decide.{ℕ_discrete}
use native.Mathlib.Omega.{arith}
use mathlib.Core.Bool.{true, not, ◌&&◌}
use mathlib.Core.List.{List, [], ◌∷◌, ◌++◌, map, map-append}
use mathlib.Core.Logic.{⊎_elim}
use mathlib.Core.Path.{◌≡◌, refl, sym, ap, subst, ◌∙◌}
use lib.Dec.{ltb, eqb}
use lib.ListN.{length, get_or, set, length-append, length-set, get_or-append}
use lib.Seq.{get_or-set_same, get_or-set_other, get_or-append_seam, take-append-le, take-append_seam}
use borrow.Author.Tests.{eq-eqb, ne_eqb, ltb-true, ltb-false, not-false}
use Rattle.std.specs.Prelude.{if◌then◌else◌}
use Rattle.basics.proofs.Choice.{by_cases, and_both}
use Rattle.operation.specs.Limits.{Limits}
use Rattle.operation.specs.Reading.{well_formed}
use Rattle.effect.specs.Replaying.{after, replay}
use Rattle.effect.proofs.Replaying.{replay_append}
use Rattle.state.specs.Numbers.{most_machines, most_issued}
use Rattle.hub.specs.Ring.{most_kept, next_of, decided, record_of, record_at}
use Rattle.hub.specs.Shape.{shaped}
use Rattle.hub.specs.Submitting.{ran, taken, submit_known, submit_of}
use Rattle.hub.specs.Telling.{Submitted}
use Rattle.hub.specs.History.{Decision, no_decision, count_of, cells_after, entry_of, HasDecided}
use Rattle.hub.specs.declared.Hub.{Hub}
use Rattle.hub.specs.declared.Record.{Record}
use Rattle.hub.proofs.Totals.{total_grows}
use Rattle.hub.proofs.GoodShape.{good}
use Rattle.hub.proofs.KeptRing.{at_new, at_other}

-- one more at the end of a history
cells_one_more :
    (l : Limits) (width : ℕ) (history : List Decision) (d : Decision) (first : List ℕ) →
    cells_after l width (history ++ (d ∷ [])) first ≡ after l width d.op (cells_after l width history first)
unfolding replay
cells_one_more l width history d first =
    rw (map-append, replay_append l width (map (λ (e : Decision). e.op) history) (d.op ∷ []) first)

pub count_one_more :
    (m : ℕ) (history : List Decision) (d : Decision) →
    count_of m (history ++ (d ∷ [])) ≡ count_of m history + (if eqb d.machine m then 1 else 0)
unfolding count_of
count_one_more m [] d = omega arith
count_one_more m (e ∷ history) d = rw (count_one_more m history d) (omega arith)

-- an entry is the same in a longer history
entry_older :
    (l : Limits) (history : List Decision) (d : Decision) (n : ℕ) → n < length history →
    entry_of l (history ++ (d ∷ [])) n ≡ entry_of l history n
entry_older l history d n h =
    rw (get_or-append history (d ∷ []) no_decision n h, take-append-le n history (d ∷ []) (omega arith))

entry_newest :
    (l : Limits) (history : List Decision) (d : Decision) (n : ℕ) → n ≡ length history →
    entry_of l (history ++ (d ∷ [])) n ≡ record_of l d.machine (count_of d.machine history) d.op
entry_newest l history d n h =
    rw (h, get_or-append_seam history d [] no_decision, take-append_seam history (d ∷ []))

module _ (l : Limits) (first : List ℕ) (history : List Decision) (h : Hub) (of : HasDecided l first history h)
    (m : ℕ) (op : List ℕ) (within : m < most_machines) where
  -- what was decided now
  abbrev newest : Decision
  newest = record { machine = m; op = op }

  abbrev longer : List Decision
  longer = history ++ (newest ∷ [])

  abbrev next : ℕ
  next = next_of h m

  abbrev made : Hub
  made = (taken l h m next op (ran l h op)).hub

  longer_by_one : length longer ≡ length history + 1
  longer_by_one = length-append history (newest ∷ [])

  next_made : (j : ℕ) → j < most_machines → next_of made j ≡ count_of j longer
  unfolding taken
  next_made j b = go (ℕ_discrete j m)
    where
      go : Dec (j ≡ m) → get_or (set h.next m (next + 1)) j 0 ≡ count_of j longer
      go (yes q) =
          rw (
            q,
            count_one_more m history newest,
            eq-eqb m m refl,
            get_or-set_same h.next m (next + 1) 0 (omega (arith, of.machines)),
          )
          (omega (arith, of.next m within))
      go (no q) =
          rw (
            count_one_more j history newest,
            ne_eqb m j (λ p. q (sym p)),
            get_or-set_other h.next m j (next + 1) 0 q,
          )
          (omega (arith, of.next j b))

  kept_made :
      (n : ℕ) → n < length history + 1 → length history + 1 ≤ n + most_kept →
      record_at made.records n ≡ entry_of l longer n
  unfolding taken
  kept_made n b k =
      ⊎_elim
      (λ q. subst (λ (x : ℕ). record_at rs x ≡ record_of l m next op) (of.count ∙ sym q)
      (at_new h.records (decided h) (record_of l m next op) of.places) ∙ (ap (λ x. record_of l m x op)
      (of.next m within) ∙ sym (entry_newest l history newest n q)))
      (λ lt. at_other h.records (decided h) (record_of l m next op) of.places n (omega (arith, of.count))
      (omega (arith, of.count)) ∙ (of.kept n lt (omega arith) ∙ sym (entry_older l history newest n lt)))
      (eq-or-lt_of_le {n = n} {m = length history} (omega arith))
    where
      rs : List Record
      rs = set h.records (decided h % most_kept) (record_of l m next op)

  pub taken_history : HasDecided l first longer made
  unfolding taken after
  taken_history = record {
    places = simp length-set of.places;
    machines = simp length-set of.machines;
    count = total_grows h.next m of.machines within ∙ (ap (λ k. k + 1) of.count ∙ sym longer_by_one);
    cells =
        ap (after l h.width op) of.cells ∙ sym (cells_one_more l h.width history newest first);
    next = next_made;
    kept = λ n b k. kept_made n (rw longer_by_one at b) (rw longer_by_one at k);
  }

-- what a submission does to the history
pub record Stepped (l : Limits) (first : List ℕ) (history : List Decision) (h : Hub) (m : ℕ) (op : List ℕ)
    (r : Submitted) : Type 0 where
  pub taken_one : r.answer ≡ 0 → HasDecided l first (history ++ (record { machine = m; op = op } ∷ [])) r.hub
  pub numbered_so : r.answer ≡ 0 → r.number ≡ length history
  pub refused_none : (r.answer ≡ 0 → ⊥) → r.hub ≡ h

module _ (l : Limits) (first : List ℕ) (history : List Decision) (h : Hub) (of : HasDecided l first history h)
    (m number : ℕ) (op : List ℕ) where
  abbrev Steps : Submitted → Type 0
  Steps r = Stepped l first history h m op r

  refused : (k : ℕ) → 0 < k → Steps (record { answer = k; outcome = 0; number = 0; hub = h })
  refused k a =
      let no : k ≡ 0 → ⊥ = λ e. omega (arith, e, a) in
      record { taken_one = λ e. absurd (no e); numbered_so = λ e. absurd (no e); refused_none = λ _. refl }

  took : m < most_machines → number ≡ next_of h m → Steps (taken l h m number op (ran l h op))
  unfolding taken
  took within e = record {
    taken_one =
        λ _. subst (λ (k : ℕ). HasDecided l first (history ++ (record { machine = m; op = op } ∷ []))
        (taken l h m k op (ran l h op)).hub) (sym e) (taken_history l first history h of m op within);
    numbered_so = λ _. of.count;
    refused_none = λ no. absurd (no refl);
  }

  pub submit_history : shaped l h ≡ true → Steps (submit_of l h m number op)
  unfolding submit_of submit_known
  submit_history s =
      by_cases Steps (not (shaped l h)) (λ _. refused _ (omega arith)) λ _.
      by_cases Steps (not (ltb m h.machines && ltb number most_issued)) (λ _. refused _ (omega arith)) λ r.
      by_cases Steps (not (well_formed l h.width op)) (λ _. refused _ (omega arith)) λ _.
      by_cases Steps (ltb number (next_of h m)) (λ _. refused _ (omega arith)) λ a.
      by_cases Steps (ltb (next_of h m) number) (λ _. refused _ (omega arith)) λ b.
      let in-range = and_both (ltb m h.machines) (ltb number most_issued) (not-false _ r) in
      let x = ltb-true m h.machines in-range.0 in
      let y = ltb-false number (next_of h m) a in
      let z = ltb-false (next_of h m) number b in
      took (omega (arith, x, (good l h s).sizes.machines_most)) (omega (arith, y, z))
