-- The values of a text stand in the paper's order: keys by their place, then records. Assumes nothing.
use Prim.Native.Nat.{ℕ, zero, suc, ◌+◌, ◌≤◌, ◌<◌}
use native.Mathlib.Decide.{dec_lt}
use native.Mathlib.Omega.{arith}
use mathlib.Core.List.{List, [], ◌∷◌, ◌++◌, map, append_assoc, append-nil, map-append}
use mathlib.Core.Path.{◌≡◌, refl, sym, ap, subst, ◌∙◌}
use lib.Dec.{ltb, eqb}
use lib.ListN.{length}
use borrow.Author.Tests.{ne_eqb, lt-ltb, le-ltb}
use Rattle.std.specs.Prelude.{if◌then◌else◌}
use Rattle.operation.specs.Limits.{Limits}
use Rattle.lines.specs.Texts.{Chain, start, step}
use Rattle.hub.specs.History.{Decision}
use Rattle.hubtext.specs.Keys.{form=, machines=, cells=, cell=, next=}
use Rattle.hubtext.specs.Values.{Value, number, entry, numbers_of, entries_of, machines_in, width_in}
use Rattle.hubtext.specs.Reading.{hub_form}
use Rattle.hubtext.proofs.Values.{numbers_number, entries_number, numbers_entry, entries_entry}
use Rattle.hubtext.proofs.NextLine.{number_value, entry_value, nothing_read}
use Rattle.hubtext.proofs.Stages.{
  Stage,
  at_form,
  at_machines,
  at_cells,
  at_cell,
  at_next,
  at_record,
  at_end,
  stage,
}
use Rattle.hubtext.proofs.Sofar.{Sofar, number_old}
use Rattle.hubtext.proofs.Reached.{reached}

-- the key of line i, where there are w cells
unfoldable pub key_at : ℕ → ℕ → List ℕ
key_at w i =
    if eqb i 0 then form= else (if eqb i 1 then machines= else (if eqb i 2 then cells= else (if ltb i (3 + w) then cell=
    else next=)))

-- numbers with their keys, from line i on
unfoldable pub keyed : ℕ → ℕ → List ℕ → List Value
keyed w i [] = []
keyed w i (n ∷ ns) = number (key_at w i) n ∷ keyed w (i + 1) ns

pub keyed_more :
    (w i : ℕ) (ns : List ℕ) (n : ℕ) →
    keyed w i (ns ++ (n ∷ [])) ≡ keyed w i ns ++ (number (key_at w (i + length ns)) n ∷ [])
unfolding keyed
keyed_more w i [] n = let z : i + 0 ≡ i = omega arith in rw z
keyed_more w i (x ∷ ns) n =
    let z : i + 1 + length ns ≡ i + suc (length ns) = omega arith in
    ap (λ v. number (key_at w i) x ∷ v)
    (subst (λ (k : ℕ). keyed w (i + 1) (ns ++ (n ∷ [])) ≡ keyed w (i + 1) ns ++ (number (key_at w k) n ∷ [])) z
    (keyed_more w (i + 1) ns n))

-- the first three keys do not hang on the number of cells
key_early : (v w i : ℕ) → i < 3 → key_at v i ≡ key_at w i
unfolding key_at
key_early v w zero h = refl
key_early v w (suc zero) h = refl
key_early v w (suc (suc zero)) h = refl
key_early v w (suc (suc (suc i))) h = absurd (omega (arith, h))

keyed_early : (v w i : ℕ) (ns : List ℕ) → i + length ns ≤ 3 → keyed v i ns ≡ keyed w i ns
unfolding keyed
keyed_early v w i [] h = refl
keyed_early v w i (n ∷ ns) h =
    rw (key_early v w i (omega (arith, h)), keyed_early v w (i + 1) ns (omega (arith, h)))

-- the key of a line, by its number
module _ (w i : ℕ) where
  pub key_form : i ≡ 0 → form= ≡ key_at w i
  unfolding key_at
  key_form e = rw e

  pub key_machines : i ≡ 1 → machines= ≡ key_at w i
  unfolding key_at
  key_machines e = rw e

  pub key_cells : i ≡ 2 → cells= ≡ key_at w i
  unfolding key_at
  key_cells e = rw e

  pub key_cell : 3 ≤ i → i < 3 + w → cell= ≡ key_at w i
  unfolding key_at
  key_cell h k =
      simp (
        ne_eqb i 0 (λ q. omega (arith, q, h)),
        ne_eqb i 1 (λ q. omega (arith, q, h)),
        ne_eqb i 2 (λ q. omega (arith, q, h)),
        lt-ltb i (3 + w) k,
      )

  pub key_next : 3 ≤ i → 3 + w ≤ i → next= ≡ key_at w i
  unfolding key_at
  key_next h k =
      simp (
        ne_eqb i 0 (λ q. omega (arith, q, h)),
        ne_eqb i 1 (λ q. omega (arith, q, h)),
        ne_eqb i 2 (λ q. omega (arith, q, h)),
        le-ltb i (3 + w) k,
      )

-- all values of a text so far
abbrev pub arranged : List ℕ → List Decision → List Value
arranged ns es = keyed (width_in ns) 0 ns ++ map entry es

module _ (l : Limits) where
  -- where the records begin, no more numbers come
  none_yet : (es : List Decision) → length es ≡ 0 → es ≡ []
  none_yet [] h = refl
  none_yet (e ∷ es) h = absurd (omega (arith, h))

  one_more :
      (vs : List Value) (n : ℕ) (key : List ℕ) → vs ≡ arranged (numbers_of vs) (entries_of vs) →
      length (entries_of vs) ≡ 0 → keyed (width_in (numbers_of vs)) 0 (numbers_of vs) ≡
      keyed (width_in (numbers_of vs ++ (n ∷ []))) 0 (numbers_of vs) →
      key ≡ key_at (width_in (numbers_of vs ++ (n ∷ []))) (length (numbers_of vs)) →
      vs ++ (number key n ∷ []) ≡
      arranged (numbers_of (vs ++ (number key n ∷ []))) (entries_of (vs ++ (number key n ∷ [])))
  one_more vs n key ih none same k =
      ap (λ x. x ++ (number key n ∷ [])) (vs_is ∙ same) ∙ (ap (λ x. keyed w 0 ns ++ (number x n ∷ [])) here ∙
      (sym (keyed_more w 0 ns n) ∙ sym right))
    where
      ns : List ℕ
      ns = numbers_of vs

      w : ℕ
      w = width_in (ns ++ (n ∷ []))

      no_es : entries_of vs ≡ []
      no_es = none_yet (entries_of vs) none

      vs_is : vs ≡ keyed (width_in ns) 0 ns
      vs_is = ih ∙ (ap (λ x. keyed (width_in ns) 0 ns ++ map entry x) no_es ∙ append-nil (keyed (width_in ns) 0 ns))

      here : key ≡ key_at w (0 + length ns)
      here = let z : length ns ≡ 0 + length ns = omega arith in k ∙ ap (key_at w) z

      right :
          arranged (numbers_of (vs ++ (number key n ∷ []))) (entries_of (vs ++ (number key n ∷ []))) ≡
          keyed w 0 (ns ++ (n ∷ []))
      right =
          rw (numbers_number vs key n, entries_number vs key n, no_es) (append-nil (keyed w 0 (ns ++ (n ∷ []))))

  one_record :
      (vs : List Value) (e : Decision) → vs ≡ arranged (numbers_of vs) (entries_of vs) →
      vs ++ (entry e ∷ []) ≡ arranged (numbers_of (vs ++ (entry e ∷ []))) (entries_of (vs ++ (entry e ∷ [])))
  one_record vs e ih =
      ap (λ x. x ++ (entry e ∷ [])) ih ∙
      (append_assoc (keyed (width_in (numbers_of vs)) 0 (numbers_of vs)) (map entry (entries_of vs)) (entry e ∷ []) ∙
      rw (numbers_entry vs e, entries_entry vs e, map-append))

  pub in_order : (vs : List Value) → Chain (hub_form l) vs → vs ≡ arranged (numbers_of vs) (entries_of vs)
  unfolding numbers_of entries_of keyed
  in_order _ start = refl
  in_order _ (step {vs = vs} v c d reads) = go (in_order vs c) (stage l ns (length (entries_of vs)))
    where
      ns : List ℕ
      ns = numbers_of vs

      s : Sofar l ns (entries_of vs)
      s = reached l vs c

      -- a number is wanted, so there are no records yet
      none : (3 ≤ length ns → length ns < 3 + width_in ns + machines_in ns) → length (entries_of vs) ≡ 0
      none open_still = at_zero (length (entries_of vs)) refl
        where
          at_zero : (k : ℕ) → length (entries_of vs) ≡ k → length (entries_of vs) ≡ 0
          at_zero zero e = e
          at_zero (suc k) e =
              let (a, b) = s.late (omega (arith, e)) in absurd (omega (arith, b, open_still a))

      by_number :
          (key : List ℕ) (n : ℕ) → v ≡ number key n → vs ≡ arranged ns (entries_of vs) →
          (3 ≤ length ns → length ns < 3 + width_in ns + machines_in ns) →
          key ≡ key_at (width_in (ns ++ (n ∷ []))) (length ns) →
          vs ++ (v ∷ []) ≡ arranged (numbers_of (vs ++ (v ∷ []))) (entries_of (vs ++ (v ∷ [])))
      by_number key n e ih open_still k =
          subst
          (λ (x : Value). vs ++ (x ∷ []) ≡ arranged (numbers_of (vs ++ (x ∷ []))) (entries_of (vs ++ (x ∷ [])))) (sym e)
          (one_more vs n key ih (none open_still) (same (dec_lt (length ns) 3)) k)
        where
          same : Dec (length ns < 3) → keyed (width_in ns) 0 ns ≡ keyed (width_in (ns ++ (n ∷ []))) 0 ns
          same (yes h) = keyed_early (width_in ns) (width_in (ns ++ (n ∷ []))) 0 ns (omega (arith, h))
          same (no h) = ap (λ x. keyed x 0 ns) (sym (number_old ns n 2 (omega (arith, h))))

      go :
          vs ≡ arranged ns (entries_of vs) → Stage l ns (length (entries_of vs)) →
          vs ++ (v ∷ []) ≡ arranged (numbers_of (vs ++ (v ∷ []))) (entries_of (vs ++ (v ∷ [])))
      go ih (at_form q w) =
          let (n, (e, r)) = number_value l vs _ _ _ _ v [] w (reads []) in
          by_number _ n e ih (λ h. absurd (omega (arith, h, q))) (key_form _ _ q)
      go ih (at_machines q w) =
          let (n, (e, r)) = number_value l vs _ _ _ _ v [] w (reads []) in
          by_number _ n e ih (λ h. absurd (omega (arith, h, q))) (key_machines _ _ q)
      go ih (at_cells q w) =
          let (n, (e, r)) = number_value l vs _ _ _ _ v [] w (reads []) in
          by_number _ n e ih (λ h. absurd (omega (arith, h, q))) (key_cells _ _ q)
      go ih (at_cell q b w) =
          let (n, (e, r)) = number_value l vs _ _ _ _ v [] w (reads []) in
          by_number _ n e ih (λ _. omega (arith, b))
          (key_cell _ _ q (omega (arith, b, number_old ns n 2 (omega (arith, q)))))
      go ih (at_next q b d w) =
          let (n, (e, r)) = number_value l vs _ _ _ _ v [] w (reads []) in
          by_number _ n e ih (λ _. d) (key_next _ _ q (omega (arith, b, number_old ns n 2 (omega (arith, q)))))
      go ih (at_record q b d w) =
          let (e, (is, _)) = entry_value l vs _ v [] w (reads []) in
          subst
          (λ (x : Value). vs ++ (x ∷ []) ≡ arranged (numbers_of (vs ++ (x ∷ []))) (entries_of (vs ++ (x ∷ [])))) (sym
          is)
          (one_record vs e ih)
      go ih (at_end q b d w) = nothing_read l vs _ v [] w (reads [])
