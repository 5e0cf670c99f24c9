-- What holds of values whose lines are read one after another. Assumes nothing.
use Prim.Native.Nat.{ℕ}
use native.Mathlib.Omega.{arith}
use mathlib.Core.List.{List, [], ◌∷◌, ◌++◌}
use mathlib.Core.Path.{◌≡◌, sym, subst}
use lib.Dec.{ltb}
use lib.ListN.{length, get_or}
use borrow.Author.Tests.{ltb-true}
use Rattle.basics.proofs.Choice.{and_both}
use Rattle.operation.specs.Limits.{Limits}
use Rattle.operation.specs.Reading.{well_formed}
use Rattle.lines.specs.Texts.{Reads, Chain, start, step}
use Rattle.hub.specs.History.{Decision, count_of}
use Rattle.hubtext.specs.Values.{Value, number, entry, numbers_of, entries_of, width_in, nexts_in}
use Rattle.hubtext.specs.Reading.{fits, hub_form}
use Rattle.hubtext.proofs.Values.{numbers_number, entries_number, numbers_entry, entries_entry}
use Rattle.hubtext.proofs.NextLine.{number_value, entry_value, nothing_read}
use Rattle.hubtext.proofs.Stages.{
  Stage,
  at_form,
  at_machines,
  at_cells,
  at_cell,
  at_next,
  at_record,
  at_end,
  stage,
}
use Rattle.hubtext.proofs.Sofar.{Sofar, Number, nothing_yet, one_number, one_entry}

module _ (l : Limits) where
  -- the numbers and entries of one value more
  after_number :
      (vs : List Value) (key : List ℕ) (n : ℕ) → Sofar l (numbers_of vs ++ (n ∷ [])) (entries_of vs) →
      Sofar l (numbers_of (vs ++ (number key n ∷ []))) (entries_of (vs ++ (number key n ∷ [])))
  after_number vs key n s = rw (numbers_number vs key n, entries_number vs key n) s

  after_entry :
      (vs : List Value) (e : Decision) → Sofar l (numbers_of vs) (entries_of vs ++ (e ∷ [])) →
      Sofar l (numbers_of (vs ++ (entry e ∷ []))) (entries_of (vs ++ (entry e ∷ [])))
  after_entry vs e s = rw (numbers_entry vs e, entries_entry vs e) s

  module _ (vs : List Value) (s : Sofar l (numbers_of vs) (entries_of vs)) (v : Value) (reads : Reads (hub_form l) vs
      v) where
    abbrev ns : List ℕ
    ns = numbers_of vs

    by_number :
        (key : List ℕ) (n : ℕ) → v ≡ number key n → Number l ns n →
        Sofar l (numbers_of (vs ++ (v ∷ []))) (entries_of (vs ++ (v ∷ [])))
    by_number key n e ok =
        subst (λ (x : Value). Sofar l (numbers_of (vs ++ (x ∷ []))) (entries_of (vs ++ (x ∷ [])))) (sym e)
        (after_number vs key n (one_number l ns (entries_of vs) s n ok))

    pub one_value : Sofar l (numbers_of (vs ++ (v ∷ []))) (entries_of (vs ++ (v ∷ [])))
    unfolding fits
    one_value = go (stage l ns (length (entries_of vs)))
      where
        go : Stage l ns (length (entries_of vs)) → Sofar l (numbers_of (vs ++ (v ∷ []))) (entries_of (vs ++ (v ∷ [])))
        go (at_form k w) =
            let (n, (e, r)) = number_value l vs _ _ _ _ v [] w (reads []) in
            by_number _ n e (record {
              first = λ _. omega (arith, r.0, r.1);
              second = λ h. absurd (omega (arith, h, k));
              third = λ h. absurd (omega (arith, h, k));
              cell = λ h. absurd (omega (arith, h, k));
              next = λ h. absurd (omega (arith, h, k));
              open_still = λ h. absurd (omega (arith, h, k));
            })
        go (at_machines k w) =
            let (n, (e, r)) = number_value l vs _ _ _ _ v [] w (reads []) in
            by_number _ n e (record {
              first = λ h. absurd (omega (arith, h, k));
              second = λ _. r;
              third = λ h. absurd (omega (arith, h, k));
              cell = λ h. absurd (omega (arith, h, k));
              next = λ h. absurd (omega (arith, h, k));
              open_still = λ h. absurd (omega (arith, h, k));
            })
        go (at_cells k w) =
            let (n, (e, r)) = number_value l vs _ _ _ _ v [] w (reads []) in
            by_number _ n e (record {
              first = λ h. absurd (omega (arith, h, k));
              second = λ h. absurd (omega (arith, h, k));
              third = λ _. r;
              cell = λ h. absurd (omega (arith, h, k));
              next = λ h. absurd (omega (arith, h, k));
              open_still = λ h. absurd (omega (arith, h, k));
            })
        go (at_cell k b w) =
            let (n, (e, r)) = number_value l vs _ _ _ _ v [] w (reads []) in
            by_number _ n e (record {
              first = λ h. absurd (omega (arith, h, k));
              second = λ h. absurd (omega (arith, h, k));
              third = λ h. absurd (omega (arith, h, k));
              cell = λ _ _. r.1;
              next = λ _ h. absurd (omega (arith, h, b));
              open_still = λ _. omega (arith, b);
            })
        go (at_next k b d w) =
            let (n, (e, r)) = number_value l vs _ _ _ _ v [] w (reads []) in
            by_number _ n e (record {
              first = λ h. absurd (omega (arith, h, k));
              second = λ h. absurd (omega (arith, h, k));
              third = λ h. absurd (omega (arith, h, k));
              cell = λ _ h. absurd (omega (arith, h, b));
              next = λ _ _. r.1;
              open_still = λ _. d;
            })
        go (at_record k b d w) =
            let (e, (is, (m, (bytes, fit)))) = entry_value l vs _ v [] w (reads []) in
            let (a, f) = and_both (ltb (count_of e.machine (entries_of vs)) (get_or (nexts_in ns) e.machine 0))
            (well_formed l (width_in ns) e.op) fit in
            let range = s.machines_fit (omega (arith, k)) in
            subst (λ (x : Value). Sofar l (numbers_of (vs ++ (x ∷ []))) (entries_of (vs ++ (x ∷ [])))) (sym is)
            (after_entry vs e
            (one_entry l ns (entries_of vs) s e k b d
            (record { machine_in = omega (arith, m, range.0); formed = f; bytes = bytes })
            (ltb-true _ _ a)))
        go (at_end k b d w) = nothing_read l vs _ v [] w (reads [])

  pub reached : (vs : List Value) → Chain (hub_form l) vs → Sofar l (numbers_of vs) (entries_of vs)
  unfolding numbers_of entries_of
  reached _ start = nothing_yet l
  reached _ (step {vs = vs} v c d reads) = one_value vs (reached vs c) v reads
