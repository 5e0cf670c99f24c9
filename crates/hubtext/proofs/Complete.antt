-- Numbers and records that are all of a text, and within their ranges, are read. Assumes nothing.
use Prim.Native.Nat.{ℕ, ◌+◌, ◌≤◌, ◌<◌, zero-le}
use native.Mathlib.Omega.{arith}
use mathlib.Core.Bool.{true, false, false≢true}
use mathlib.Core.List.{List, [], ◌∷◌, ◌++◌, map, append_assoc, append-nil, map-append}
use mathlib.Core.Path.{◌≡◌, refl, sym, ap, subst, ◌∙◌}
use lib.ListN.{length, get_or, length-append, get_or-append}
use lib.Seq.{get_or-append_seam}
use borrow.Author.Tests.{lt-ltb, eq-eqb}
use Rattle.operation.specs.Limits.{Limits}
use Rattle.operation.proofs.WellFormed.{formed, op_of}
use Rattle.state.specs.Numbers.{most_machines, most_issued}
use Rattle.lines.specs.Texts.{Reads, Chain, start, step, After, all, also, Finished}
use Rattle.lines.proofs.Chains.{after_chain}
use Rattle.hub.specs.Ring.{total, kept_count}
use Rattle.hub.specs.History.{Decision, no_decision, count_of}
use Rattle.hubtext.specs.Keys.{form=, machines=, cells=, cell=, next=}
use Rattle.hubtext.specs.Values.{Value, number, entry, numbers_of, entries_of, machines_in, width_in, nexts_in}
use Rattle.hubtext.specs.Reading.{Want, field_line, record_line, no_line, want, is_none, fits, hub_form}
use Rattle.hubtext.proofs.Values.{numbers_append, entries_append, numbers_of_entries, entries_of_entries}
use Rattle.hubtext.proofs.NextLine.{number_reads, entry_reads}
use Rattle.hubtext.proofs.Stages.{
  Stage,
  at_form,
  at_machines,
  at_cells,
  at_cell,
  at_next,
  at_record,
  at_end,
  stage,
}
use Rattle.hubtext.proofs.Sofar.{Sofar, Entry}
use Rattle.hubtext.proofs.Reached.{reached}
use Rattle.hubtext.proofs.Arranged.{
  key_at,
  keyed,
  keyed_more,
  arranged,
  in_order,
  key_form,
  key_machines,
  key_cells,
  key_cell,
  key_next,
}

-- the numbers of keyed numbers, and no record among them
pub keyed_numbers : (w i : ℕ) (ns : List ℕ) → numbers_of (keyed w i ns) ≡ ns
unfolding keyed numbers_of
keyed_numbers w i [] = refl
keyed_numbers w i (n ∷ ns) = ap (λ x. n ∷ x) (keyed_numbers w (i + 1) ns)

pub keyed_entries : (w i : ℕ) (ns : List ℕ) → entries_of (keyed w i ns) ≡ []
unfolding keyed entries_of
keyed_entries w i [] = refl
keyed_entries w i (n ∷ ns) = keyed_entries w (i + 1) ns

count_append :
    (m : ℕ) (xs ys : List Decision) → count_of m (xs ++ ys) ≡ count_of m xs + count_of m ys
unfolding count_of
count_append m [] ys = omega arith
count_append m (x ∷ xs) ys = rw (count_append m xs ys) (omega arith)

count_own : (e : Decision) (es : List Decision) → 1 ≤ count_of e.machine (e ∷ es)
unfolding count_of
count_own e es = rw (eq-eqb e.machine e.machine refl) (omega arith)

-- all numbers and records of a text
pub record Whole (l : Limits) (ns : List ℕ) (es : List Decision) : Type 0 where
  pub sofar : Sofar l ns es
  pub three : 3 ≤ length ns
  pub numbers_all : 3 + width_in ns + machines_in ns ≤ length ns
  pub records_all : kept_count (total (nexts_in ns)) ≤ length es

module _ (l : Limits) (ns : List ℕ) (es : List Decision) (whole : Whole l ns es) where
  abbrev w : ℕ
  w = width_in ns

  -- what is wanted after `pre`, which n is next to
  record Next (pre : List ℕ) (n : ℕ) : Type 0 where
    pub key : List ℕ
    pub low : ℕ
    pub top : ℕ
    pub wanted : want l pre 0 ≡ field_line key low top
    pub key_is : key ≡ key_at w (length pre)
    pub least : low ≤ n
    pub most : n ≤ top

  next_number : (pre rest : List ℕ) (n : ℕ) → ns ≡ pre ++ (n ∷ rest) → Next pre n
  next_number pre rest n e = go (stage l pre 0)
    where
      s : Sofar l ns es
      s = whole.sofar

      here : get_or ns (length pre) 0 ≡ n
      here = ap (λ x. get_or x (length pre) 0) e ∙ get_or-append_seam pre n rest 0

      old : (i : ℕ) → i < length pre → get_or ns i 0 ≡ get_or pre i 0
      old i h = ap (λ x. get_or x i 0) e ∙ get_or-append pre (n ∷ rest) 0 i h

      long : length pre < length ns
      long = omega (arith, ap length e, length-append pre (n ∷ rest))

      at : (i : ℕ) → length pre ≡ i → get_or ns i 0 ≡ n
      at i q = ap (λ k. get_or ns k 0) (sym q) ∙ here

      over : 3 ≤ length pre → 3 + width_in pre + machines_in pre ≤ length pre → ⊥
      over q b =
          omega (arith, b, long, s.few whole.three, old 2 (omega (arith, q)), old 1 (omega (arith, q)))

      go : Stage l pre 0 → Next pre n
      go (at_form q x) = record {
        key = form=;
        low = 1;
        top = 1;
        wanted = x;
        key_is = key_form w (length pre) q;
        least = omega (arith, at 0 q, s.form_is (omega (arith, whole.three)));
        most = omega (arith, at 0 q, s.form_is (omega (arith, whole.three)));
      }
      go (at_machines q x) = record {
        key = machines=;
        low = 1;
        top = most_machines;
        wanted = x;
        key_is = key_machines w (length pre) q;
        least = omega (arith, at 1 q, (s.machines_fit (omega (arith, whole.three))).0);
        most = omega (arith, at 1 q, (s.machines_fit (omega (arith, whole.three))).1);
      }
      go (at_cells q x) = record {
        key = cells=;
        low = 1;
        top = l.cells;
        wanted = x;
        key_is = key_cells w (length pre) q;
        least = omega (arith, at 2 q, (s.width_fits whole.three).0);
        most = omega (arith, at 2 q, (s.width_fits whole.three).1);
      }
      go (at_cell q b x) =
          let k : length pre < 3 + w = omega (arith, b, old 2 (omega (arith, q))) in
          record {
            key = cell=;
            low = 0;
            top = l.held;
            wanted = x;
            key_is = key_cell w (length pre) q k;
            least = zero-le;
            most = omega (arith, here, s.cell_in (length pre) q k);
          }
      go (at_next q b d x) =
          let k : 3 + w ≤ length pre = omega (arith, b, old 2 (omega (arith, q))) in
          record {
            key = next=;
            low = 0;
            top = most_issued;
            wanted = x;
            key_is = key_next w (length pre) q k;
            least = zero-le;
            most = omega (arith, here, s.next_in (length pre) k whole.three);
          }
      go (at_record q b d x) = absurd (over q b)
      go (at_end q b d x) = absurd (over q b)

  -- the numbers after `pre`
  numbers_come :
      (pre rest : List ℕ) → ns ≡ pre ++ rest → Chain (hub_form l) (keyed w 0 pre) →
      (Chain (hub_form l) (keyed w 0 ns) → After (hub_form l) (keyed w 0 ns) (map entry es)) →
      After (hub_form l) (keyed w 0 pre) (keyed w (length pre) rest ++ map entry es)
  unfolding keyed
  numbers_come pre [] e c records =
      subst (λ (x : List ℕ). After (hub_form l) (keyed w 0 x) (map entry es)) whole_is
      (records (subst (λ (x : List ℕ). Chain (hub_form l) (keyed w 0 x)) (sym whole_is) c))
    where
      whole_is : ns ≡ pre
      whole_is = e ∙ append-nil pre
  numbers_come pre (n ∷ rest) e c records =
      also (number (key_at w (length pre)) n) done reads
      (subst (λ (x : List Value). After (hub_form l) x (keyed w (length pre + 1) rest ++ map entry es)) more
      (subst
      (λ (k : ℕ). After (hub_form l) (keyed w 0 (pre ++ (n ∷ []))) (keyed w k rest ++ map entry es))
      (length-append pre (n ∷ []))
      (numbers_come (pre ++ (n ∷ [])) rest (e ∙ sym (append_assoc pre (n ∷ []) rest)) chain records)))
    where
      x : Next pre n
      x = next_number pre rest n e

      wanted : want l (numbers_of (keyed w 0 pre)) (length (entries_of (keyed w 0 pre))) ≡ field_line x.key x.low x.top
      wanted = rw (keyed_numbers w 0 pre, keyed_entries w 0 pre) x.wanted

      done : (hub_form l).done (keyed w 0 pre) ≡ false
      done = ap (is_none l) wanted

      reads : Reads (hub_form l) (keyed w 0 pre) (number (key_at w (length pre)) n)
      reads =
          subst (λ (k : List ℕ). Reads (hub_form l) (keyed w 0 pre) (number k n)) x.key_is
          (number_reads l (keyed w 0 pre) x.key x.low x.top n wanted x.least x.most)

      more : keyed w 0 (pre ++ (n ∷ [])) ≡ keyed w 0 pre ++ (number (key_at w (length pre)) n ∷ [])
      more =
          let z : 0 + length pre ≡ length pre = omega arith in
          keyed_more w 0 pre n ∙ ap (λ k. keyed w 0 pre ++ (number (key_at w k) n ∷ [])) z

      chain : Chain (hub_form l) (keyed w 0 (pre ++ (n ∷ [])))
      chain =
          subst (λ (y : List Value). Chain (hub_form l) y) (sym more)
          (step (number (key_at w (length pre)) n) c done reads)

  -- the values after `pre` of the records
  abbrev up_to : List Decision → List Value
  up_to pre = keyed w 0 ns ++ map entry pre

  numbers_up : (pre : List Decision) → numbers_of (up_to pre) ≡ ns
  numbers_up pre =
      numbers_append (keyed w 0 ns) (map entry pre) ∙ (rw (keyed_numbers w 0 ns, numbers_of_entries pre)
      (append-nil ns))

  entries_up : (pre : List Decision) → entries_of (up_to pre) ≡ pre
  entries_up pre =
      entries_append (keyed w 0 ns) (map entry pre) ∙ rw (keyed_entries w 0 ns) (entries_of_entries pre)

  -- where a record comes, it is wanted and may come
  next_entry :
      (pre rest : List Decision) (e : Decision) → es ≡ pre ++ (e ∷ rest) →
      (want l ns (length pre) ≡ record_line) × (fits l ns pre e ≡ true)
  unfolding fits count_of
  next_entry pre rest e q = (go (stage l ns (length pre)), fit)
    where
      s : Sofar l ns es
      s = whole.sofar

      long : length pre < length es
      long = omega (arith, ap length q, length-append pre (e ∷ rest))

      own : Entry l ns e
      own =
          subst (λ (x : Decision). Entry l ns x)
          (ap (λ x. get_or x (length pre) no_decision) q ∙ get_or-append_seam pre e rest no_decision)
          (s.each (length pre) long)

      go : Stage l ns (length pre) → want l ns (length pre) ≡ record_line
      go (at_form k x) = absurd (omega (arith, k, whole.three))
      go (at_machines k x) = absurd (omega (arith, k, whole.three))
      go (at_cells k x) = absurd (omega (arith, k, whole.three))
      go (at_cell k b x) = absurd (omega (arith, b, whole.numbers_all))
      go (at_next k b d x) = absurd (omega (arith, d, whole.numbers_all))
      go (at_record k b d x) = x
      go (at_end k b d x) = absurd (omega (arith, d, long, s.kept))

      space : count_of e.machine pre < get_or (nexts_in ns) e.machine 0
      space =
          let c = ap (count_of e.machine) q ∙ count_append e.machine pre (e ∷ rest) in
          let o = count_own e rest in
          omega (arith, s.room e.machine, c, o)

      fit : fits l ns pre e ≡ true
      fit = simp (lt-ltb _ _ space, own.formed)

  records_come :
      (pre rest : List Decision) → es ≡ pre ++ rest → Chain (hub_form l) (up_to pre) →
      After (hub_form l) (up_to pre) (map entry rest)
  records_come pre [] q c = all (go (stage l ns (length pre)))
    where
      same : es ≡ pre
      same = q ∙ append-nil pre

      ended : want l ns (length pre) ≡ no_line → (hub_form l).done (up_to pre) ≡ true
      ended x = rw (numbers_up pre, entries_up pre, x)

      go : Stage l ns (length pre) → (hub_form l).done (up_to pre) ≡ true
      go (at_form k x) = absurd (omega (arith, k, whole.three))
      go (at_machines k x) = absurd (omega (arith, k, whole.three))
      go (at_cells k x) = absurd (omega (arith, k, whole.three))
      go (at_cell k b x) = absurd (omega (arith, b, whole.numbers_all))
      go (at_next k b d x) = absurd (omega (arith, d, whole.numbers_all))
      go (at_record k b d x) = absurd (omega (arith, d, ap length same, whole.records_all))
      go (at_end k b d x) = ended x
  records_come pre (e ∷ rest) q c =
      also (entry e) done reads
      (subst (λ (x : List Value). After (hub_form l) x (map entry rest)) more
      (records_come (pre ++ (e ∷ [])) rest (q ∙ sym (append_assoc pre (e ∷ []) rest)) chain))
    where
      x : (want l ns (length pre) ≡ record_line) × (fits l ns pre e ≡ true)
      x = next_entry pre rest e q

      own : Entry l ns e
      own =
          subst (λ (d : Decision). Entry l ns d)
          (ap (λ d. get_or d (length pre) no_decision) q ∙ get_or-append_seam pre e rest no_decision)
          (whole.sofar.each (length pre) (omega (arith, ap length q, length-append pre (e ∷ rest))))

      wanted : want l (numbers_of (up_to pre)) (length (entries_of (up_to pre))) ≡ record_line
      wanted = rw (numbers_up pre, entries_up pre) x.0

      done : (hub_form l).done (up_to pre) ≡ false
      done = ap (is_none l) wanted

      short : length e.op ≤ l.bytes
      short = let p = op_of l w e.op own.formed in (formed l w e.op p.0 p.1).bytes

      reads : Reads (hub_form l) (up_to pre) (entry e)
      reads =
          entry_reads l (up_to pre) e wanted (rw (numbers_up pre) (omega (arith, own.machine_in))) own.bytes short
          (rw (numbers_up pre, entries_up pre) x.1)

      more : up_to (pre ++ (e ∷ [])) ≡ up_to pre ++ (entry e ∷ [])
      more = rw map-append (sym (append_assoc (keyed w 0 ns) (map entry pre) (entry e ∷ [])))

      chain : Chain (hub_form l) (up_to (pre ++ (e ∷ [])))
      chain = subst (λ (y : List Value). Chain (hub_form l) y) (sym more) (step (entry e) c done reads)

  -- all of them are the values of a good text
  pub whole_finished : Finished (hub_form l) (arranged ns es)
  unfolding keyed
  whole_finished =
      numbers_come [] ns refl start
      (λ c. subst (λ (x : List Value). After (hub_form l) x (map entry es)) (append-nil (keyed w 0 ns))
      (records_come [] es refl (subst (λ (x : List Value). Chain (hub_form l) x) (sym (append-nil (keyed w 0 ns))) c)))

-- and the values of a good text are such numbers and records, in order
pub finished_whole :
    (l : Limits) (vs : List Value) → Finished (hub_form l) vs →
    Whole l (numbers_of vs) (entries_of vs) × (vs ≡ arranged (numbers_of vs) (entries_of vs))
finished_whole l vs a = (go (stage l (numbers_of vs) (length (entries_of vs))), in_order l vs i.0)
  where
    i : Chain (hub_form l) vs × ((hub_form l).done vs ≡ true)
    i = after_chain (hub_form l) [] vs start a

    not_done : (x : Want) → want l (numbers_of vs) (length (entries_of vs)) ≡ x → is_none l x ≡ false → ⊥
    not_done x e f = false≢true (sym f ∙ (sym (ap (is_none l) e) ∙ i.1))

    go : Stage l (numbers_of vs) (length (entries_of vs)) → Whole l (numbers_of vs) (entries_of vs)
    go (at_form k x) = absurd (not_done _ x refl)
    go (at_machines k x) = absurd (not_done _ x refl)
    go (at_cells k x) = absurd (not_done _ x refl)
    go (at_cell k b x) = absurd (not_done _ x refl)
    go (at_next k b d x) = absurd (not_done _ x refl)
    go (at_record k b d x) = absurd (not_done _ x refl)
    go (at_end k b d x) =
        record { sofar = reached l vs i.0; three = k; numbers_all = b; records_all = d }
