-- What is known of the values that were read so far. Assumes nothing.
use Prim.Native.Nat.{ℕ, zero, suc, ◌+◌, ◌≤◌, ◌<◌, zero-le}
use native.Mathlib.Decide.{ℕ_discrete, dec_lt}
use native.Mathlib.Omega.{arith}
use mathlib.Core.Bool.{Bool, true, false}
use mathlib.Core.List.{List, [], ◌∷◌, ◌++◌}
use lib.Dec.{eqb}
use borrow.Author.Tests.{eqb-true}
use Rattle.hub.proofs.Histories.{count_one_more}
use mathlib.Core.Path.{◌≡◌, refl, sym, ap, subst, ◌∙◌}
use lib.ListN.{length, get_or, length-append, get_or-append, get_or-eq_default}
use lib.Seq.{get_or-append_seam}
use Rattle.operation.specs.Limits.{Limits}
use Rattle.operation.specs.Reading.{well_formed}
use Rattle.state.specs.Numbers.{most_machines, most_issued}
use Rattle.lines.proofs.Hexes.{Bytes}
use Rattle.hub.specs.Ring.{total, kept_count}
use Rattle.hub.specs.History.{Decision, no_decision, count_of}
use Rattle.hubtext.specs.Values.{machines_in, width_in, nexts_in}

-- an entry that may stand in a text with these numbers
pub record Entry (l : Limits) (ns : List ℕ) (e : Decision) : Type 0 where
  pub machine_in : e.machine < machines_in ns
  pub formed : well_formed l (width_in ns) e.op ≡ true
  pub bytes : Bytes e.op

pub record Sofar (l : Limits) (ns : List ℕ) (es : List Decision) : Type 0 where
  pub form_is : 1 ≤ length ns → get_or ns 0 0 ≡ 1
  pub machines_fit : 2 ≤ length ns → (1 ≤ machines_in ns) × (machines_in ns ≤ most_machines)
  pub width_fits : 3 ≤ length ns → (1 ≤ width_in ns) × (width_in ns ≤ l.cells)
  pub few : 3 ≤ length ns → length ns ≤ 3 + width_in ns + machines_in ns
  pub cell_in : (i : ℕ) → 3 ≤ i → i < 3 + width_in ns → get_or ns i 0 ≤ l.held
  pub next_in : (i : ℕ) → 3 + width_in ns ≤ i → 3 ≤ length ns → get_or ns i 0 ≤ most_issued
  pub late : 1 ≤ length es → (3 ≤ length ns) × (3 + width_in ns + machines_in ns ≤ length ns)
  pub kept : length es ≤ kept_count (total (nexts_in ns))
  pub room : (m : ℕ) → count_of m es ≤ get_or (nexts_in ns) m 0
  pub each : (i : ℕ) → i < length es → Entry l ns (get_or es i no_decision)

pub nothing_yet : (l : Limits) → Sofar l [] []
unfolding count_of
nothing_yet l = record {
  form_is = λ h. absurd (omega (arith, h));
  machines_fit = λ h. absurd (omega (arith, h));
  width_fits = λ h. absurd (omega (arith, h));
  few = λ h. absurd (omega (arith, h));
  cell_in = λ i h k. absurd (omega (arith, h, k));
  next_in = λ i h k. absurd (omega (arith, k));
  late = λ h. absurd (omega (arith, h));
  kept = zero-le;
  room = λ m. zero-le;
  each = λ i h. absurd (omega (arith, h));
}

-- one number more
module _ (ns : List ℕ) (n : ℕ) where
  pub longer : length (ns ++ (n ∷ [])) ≡ length ns + 1
  longer = length-append ns (n ∷ [])

  pub number_old : (i : ℕ) → i < length ns → get_or (ns ++ (n ∷ [])) i 0 ≡ get_or ns i 0
  number_old i h = get_or-append ns (n ∷ []) 0 i h

  pub number_new : (i : ℕ) → i ≡ length ns → get_or (ns ++ (n ∷ [])) i 0 ≡ n
  number_new i e = ap (λ k. get_or (ns ++ (n ∷ [])) k 0) e ∙ get_or-append_seam ns n [] 0

  pub number_past : (i : ℕ) → length ns < i → get_or (ns ++ (n ∷ [])) i 0 ≡ 0
  number_past i h = get_or-eq_default (ns ++ (n ∷ [])) 0 (omega (arith, h, longer))

  -- a number is an old one, or the new one, or 0
  pub number_most :
      (top i : ℕ) → (i < length ns → get_or ns i 0 ≤ top) → (i ≡ length ns → n ≤ top) →
      get_or (ns ++ (n ∷ [])) i 0 ≤ top
  number_most top i old new = go (dec_lt i (length ns)) (ℕ_discrete i (length ns))
    where
      go : Dec (i < length ns) → Dec (i ≡ length ns) → get_or (ns ++ (n ∷ [])) i 0 ≤ top
      go (yes h) d = rw (number_old i h) (old h)
      go (no h) (yes e) = rw (number_new i e) (new e)
      go (no h) (no e) = rw (number_past i (omega (arith, h, e))) zero-le

-- what a number may be, by how many there are
pub record Number (l : Limits) (ns : List ℕ) (n : ℕ) : Type 0 where
  pub first : length ns ≡ 0 → n ≡ 1
  pub second : length ns ≡ 1 → (1 ≤ n) × (n ≤ most_machines)
  pub third : length ns ≡ 2 → (1 ≤ n) × (n ≤ l.cells)
  pub cell : 3 ≤ length ns → length ns < 3 + width_in ns → n ≤ l.held
  pub next : 3 ≤ length ns → 3 + width_in ns ≤ length ns → n ≤ most_issued
  pub open_still : 3 ≤ length ns → length ns < 3 + width_in ns + machines_in ns

module _ (l : Limits) (ns : List ℕ) (es : List Decision) (s : Sofar l ns es) (n : ℕ) (ok : Number l ns n) where
  abbrev ns' : List ℕ
  ns' = ns ++ (n ∷ [])

  none_yet : length es ≡ 0
  none_yet = go (length es) refl
    where
      go : (k : ℕ) → length es ≡ k → length es ≡ 0
      go zero e = e
      go (suc k) e =
          let (a, b) = s.late (omega (arith, e)) in
          absurd (omega (arith, b, ok.open_still a))

  no_entries : (ds : List Decision) → length ds ≡ 0 → (m : ℕ) → count_of m ds ≡ 0
  unfolding count_of
  no_entries [] e m = refl
  no_entries (d ∷ ds) e m = absurd (omega (arith, e))

  width_same : 3 ≤ length ns → width_in ns' ≡ width_in ns
  width_same h = number_old ns n 2 (omega arith)

  machines_same : 2 ≤ length ns → machines_in ns' ≡ machines_in ns
  machines_same h = number_old ns n 1 (omega arith)

  pub one_number : Sofar l ns' es
  one_number = record {
    form_is = λ h. form h (ℕ_discrete (length ns) 0);
    machines_fit = λ h. machines h (ℕ_discrete (length ns) 1);
    width_fits = λ h. width h (ℕ_discrete (length ns) 2);
    few = λ h. fewer h (ℕ_discrete (length ns) 2);
    cell_in = cells;
    next_in = nexts;
    late = λ h. absurd (omega (arith, h, none_yet));
    kept = rw none_yet zero-le;
    room = λ m. rw (no_entries es none_yet m) zero-le;
    each = λ i h. absurd (omega (arith, h, none_yet));
  }
    where
      form : 1 ≤ length ns' → Dec (length ns ≡ 0) → get_or ns' 0 0 ≡ 1
      form h (yes e) = number_new ns n 0 (sym e) ∙ ok.first e
      form h (no e) = number_old ns n 0 (omega (arith, e)) ∙ s.form_is (omega (arith, e))

      machines :
          2 ≤ length ns' → Dec (length ns ≡ 1) → (1 ≤ machines_in ns') × (machines_in ns' ≤ most_machines)
      machines h (yes e) = rw (number_new ns n 1 (sym e)) (ok.second e)
      machines h (no e) =
          let k : 2 ≤ length ns = omega (arith, h, e, longer ns n) in rw (machines_same k) (s.machines_fit k)

      width : 3 ≤ length ns' → Dec (length ns ≡ 2) → (1 ≤ width_in ns') × (width_in ns' ≤ l.cells)
      width h (yes e) = rw (number_new ns n 2 (sym e)) (ok.third e)
      width h (no e) =
          let k : 3 ≤ length ns = omega (arith, h, e, longer ns n) in rw (width_same k) (s.width_fits k)

      fewer : 3 ≤ length ns' → Dec (length ns ≡ 2) → length ns' ≤ 3 + width_in ns' + machines_in ns'
      fewer h (yes e) = omega (arith, e, longer ns n)
      fewer h (no e) =
          let k : 3 ≤ length ns = omega (arith, h, e, longer ns n) in
          omega (arith, ok.open_still k, longer ns n, width_same k, machines_same (omega (arith, k)))

      cells : (i : ℕ) → 3 ≤ i → i < 3 + width_in ns' → get_or ns' i 0 ≤ l.held
      cells i h k =
          number_most ns n l.held i
          (λ lt. s.cell_in i h (omega (arith, k, width_same (omega (arith, h, lt)))))
          (λ e. let three : 3 ≤ length ns = omega (arith, h, e) in
          ok.cell three (omega (arith, k, e, width_same three)))

      nexts : (i : ℕ) → 3 + width_in ns' ≤ i → 3 ≤ length ns' → get_or ns' i 0 ≤ most_issued
      nexts i h k =
          number_most ns n most_issued i
          (λ lt. let three : 3 ≤ length ns = omega (arith, h, lt) in
          s.next_in i (omega (arith, h, width_same three)) three)
          (λ e. let three : 3 ≤ length ns = omega (arith, h, e) in
          ok.next three (omega (arith, h, e, width_same three)))

-- one entry more
module _ (l : Limits) (ns : List ℕ) (es : List Decision) (s : Sofar l ns es) (e : Decision)
    (three : 3 ≤ length ns) (all : 3 + width_in ns + machines_in ns ≤ length ns)
    (more : length es < kept_count (total (nexts_in ns))) (entry : Entry l ns e)
    (space : count_of e.machine es < get_or (nexts_in ns) e.machine 0) where
  abbrev es' : List Decision
  es' = es ++ (e ∷ [])

  one_more : length es' ≡ length es + 1
  one_more = length-append es (e ∷ [])

  pub one_entry : Sofar l ns es'
  one_entry = record {
    form_is = s.form_is;
    machines_fit = s.machines_fit;
    width_fits = s.width_fits;
    few = s.few;
    cell_in = s.cell_in;
    next_in = s.next_in;
    late = λ _. (three, all);
    kept = rw one_more (omega (arith, more));
    room = rooms;
    each = entries;
  }
    where
      rooms : (m : ℕ) → count_of m es' ≤ get_or (nexts_in ns) m 0
      rooms m = go (eqb e.machine m) refl
        where
          go : (b : Bool) → eqb e.machine m ≡ b → count_of m es' ≤ get_or (nexts_in ns) m 0
          go true q =
              let f = eqb-true e.machine m q in
              let g = subst (λ (k : ℕ). count_of k es < get_or (nexts_in ns) k 0) f space in
              rw (count_one_more m es e, q) (omega (arith, g))
          go false q = rw (count_one_more m es e, q) (omega (arith, s.room m))

      entries : (i : ℕ) → i < length es' → Entry l ns (get_or es' i no_decision)
      entries i h = go (dec_lt i (length es))
        where
          go : Dec (i < length es) → Entry l ns (get_or es' i no_decision)
          go (yes k) =
              subst (λ (x : Decision). Entry l ns x) (sym (get_or-append es (e ∷ []) no_decision i k)) (s.each i k)
          go (no k) =
              let q : i ≡ length es = omega (arith, h, k, one_more) in
              subst (λ (x : Decision). Entry l ns x)
              (sym (ap (λ x. get_or es' x no_decision) q ∙ get_or-append_seam es e [] no_decision)) entry
