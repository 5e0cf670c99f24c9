-- Laws of the lines that are written. Assumes nothing.
use Prim.Native.Nat.{ℕ, zero, suc, ◌+◌, ◌-◌, ◌<◌}
use native.Mathlib.Numerals.{add-one}
use native.Mathlib.Omega.{arith}
use mathlib.Core.List.{List, [], ◌∷◌, ◌++◌, map, map-append, append_assoc}
use mathlib.Core.Path.{◌≡◌, sym, ap, subst, ◌∙◌}
use lib.ListN.{length, get_or, take}
use lib.Seq.{take-suc}
use Rattle.operation.specs.Limits.{Limits}
use Rattle.lines.specs.Decimals.{decimal}
use Rattle.lines.specs.Fields.{LF, field_of}
use Rattle.lines.specs.Hex.{hex_of}
use Rattle.lines.specs.Pens.{Lays}
use Rattle.lines.specs.Texts.{text_of}
use Rattle.lines.proofs.Appending.{text_append, text_one, text_empty}
use Rattle.lines.specs.declared.put.Pen.{Pen}
use Rattle.lines.proofs.Laying.{lays_none, lays_more, lays_same}
use Rattle.hub.specs.Ring.{decided, kept_count, record_at}
use Rattle.hub.specs.History.{Decision}
use Rattle.hub.specs.declared.Hub.{Hub}
use Rattle.hub.specs.declared.Record.{Record}
use Rattle.hubtext.specs.Keys.{form=, machines=, cells=, cell=, next=, rec=, comma}
use Rattle.hubtext.specs.Values.{Value, number, entry}
use Rattle.hubtext.specs.Writing.{entry_of, entries_from, kept_entries, values_of}
use Rattle.hubtext.specs.Reading.{hub_form}
use Rattle.hubtext.specs.Saving.{hub_text}
use Rattle.hubtext.proofs.NextLine.{entry_line}

module _ (l : Limits) where
  -- one line
  number_text : (key : List ℕ) (n : ℕ) → field_of key LF n ≡ text_of (hub_form l) (number key n ∷ [])
  unfolding field_of
  number_text key n = sym (text_one (hub_form l) (number key n) ∙ append_assoc key (decimal n) (LF ∷ []))

  pub entry_text :
      (e : Decision) →
      field_of rec= comma e.machine ++ (hex_of e.op ++ (LF ∷ [])) ≡ text_of (hub_form l) (entry e ∷ [])
  entry_text e = entry_line e [] ∙ sym (text_one (hub_form l) (entry e))

  -- no line yet, and one more
  pub numbers_none : (p : Pen) (key : List ℕ) → Lays p p (text_of (hub_form l) (map (number key) []))
  numbers_none p key = lays_same (lays_none p) (sym (text_empty (hub_form l)))

  pub numbers_next :
      {p q r : Pen} (key xs : List ℕ) (i v : ℕ) → i < length xs → v ≡ get_or xs i 0 →
      Lays p q (text_of (hub_form l) (map (number key) (take i xs))) → Lays q r (field_of key LF v) →
      Lays p r (text_of (hub_form l) (map (number key) (take (i + 1) xs)))
  numbers_next key xs i v h e a b = lays_same (lays_more a b) longer
    where
      longer :
          text_of (hub_form l) (map (number key) (take i xs)) ++ field_of key LF v ≡
          text_of (hub_form l) (map (number key) (take (i + 1) xs))
      longer =
          rw (add-one, take-suc xs i 0 h, map-append, text_append (hub_form l) (map (number key) (take i xs)), sym e)
          (ap (λ x. text_of (hub_form l) (map (number key) (take i xs)) ++ x) (number_text key v))

  -- form, machines, cells
  pub head_lines :
      {p q r t : Pen} (m w : ℕ) → Lays p q (field_of form= LF 1) → Lays q r (field_of machines= LF m) →
      Lays r t (field_of cells= LF w) →
      Lays p t (text_of (hub_form l) (number form= 1 ∷ number machines= m ∷ number cells= w ∷ []))
  head_lines m w a b c = lays_same (lays_more a (lays_more b c)) whole
    where
      whole :
          field_of form= LF 1 ++ (field_of machines= LF m ++ field_of cells= LF w) ≡
          text_of (hub_form l) (number form= 1 ∷ number machines= m ∷ number cells= w ∷ [])
      whole =
          rw (number_text form= 1, number_text machines= m, number_text cells= w)
          (sym (text_append (hub_form l) (number form= 1 ∷ []) (number machines= m ∷ number cells= w ∷ []) ∙ ap
          (λ x. text_of (hub_form l) (number form= 1 ∷ []) ++ x)
          (text_append (hub_form l) (number machines= m ∷ []) (number cells= w ∷ []))))

  -- records
  entries_more :
      (records : List Record) (n i : ℕ) →
      entries_from records n (suc i) ≡ entries_from records n i ++ (entry_of (record_at records (n + i)) ∷ [])
  unfolding entries_from
  entries_more records n zero = let z : n + 0 ≡ n = omega arith in rw z
  entries_more records n (suc i) =
      let z : n + 1 + i ≡ n + suc i = omega arith in
      ap (λ x. entry_of (record_at records n) ∷ x) (subst (λ (k : ℕ). entries_from records (n + 1) (suc i) ≡
      entries_from records (n + 1) i ++ (entry_of (record_at records k) ∷ [])) z (entries_more records (n + 1) i))

  pub entries_none :
      (p : Pen) (records : List Record) (n : ℕ) →
      Lays p p (text_of (hub_form l) (map entry (entries_from records n 0)))
  unfolding entries_from
  entries_none p records n = lays_same (lays_none p) (sym (text_empty (hub_form l)))

  pub entries_next :
      {p q r : Pen} (records : List Record) (n i : ℕ) (one : Record) → one ≡ record_at records (n + i) →
      Lays p q (text_of (hub_form l) (map entry (entries_from records n i))) →
      Lays q r (text_of (hub_form l) (entry (entry_of one) ∷ [])) →
      Lays p r (text_of (hub_form l) (map entry (entries_from records n (i + 1))))
  entries_next records n i one e a b = lays_same (lays_more a b) longer
    where
      longer :
          text_of (hub_form l) (map entry (entries_from records n i)) ++ text_of (hub_form l) (entry (entry_of one) ∷ []) ≡
          text_of (hub_form l) (map entry (entries_from records n (i + 1)))
      longer =
          rw (add-one, entries_more records n i, map-append, sym e)
          (sym (text_append (hub_form l) (map entry (entries_from records n i)) (entry (entry_of one) ∷ [])))

  pub record_line :
      {p q r t : Pen} (e : Decision) → Lays p q (field_of rec= comma e.machine) → Lays q r (hex_of e.op) →
      Lays r t (LF ∷ []) → Lays p t (text_of (hub_form l) (entry e ∷ []))
  record_line e a b c = lays_same (lays_more a (lays_more b c)) (entry_text e)

  -- all of the text
  pub whole_text :
      {p q r t u : Pen} (h : Hub) (n k : ℕ) → n ≡ decided h → k ≡ kept_count n →
      Lays p q (text_of (hub_form l) (number form= 1 ∷ number machines= h.machines ∷ number cells= h.width ∷ [])) →
      Lays q r (text_of (hub_form l) (map (number cell=) (take h.width h.cells))) →
      Lays r t (text_of (hub_form l) (map (number next=) (take h.machines h.next))) →
      Lays t u (text_of (hub_form l) (map entry (entries_from h.records (n - k) k))) → Lays p u (hub_text l h)
  unfolding values_of
  whole_text h n k e f a b c d =
      lays_same (lays_more a (lays_more b (lays_more c (lays_same d (ap (λ z. text_of (hub_form l) (map entry z)) same)))))
      (sym split)
    where
      head : List Value
      head = number form= 1 ∷ number machines= h.machines ∷ number cells= h.width ∷ []

      cells : List Value
      cells = map (number cell=) (take h.width h.cells)

      nexts : List Value
      nexts = map (number next=) (take h.machines h.next)

      kept : List Value
      kept = map entry (kept_entries h)

      same : entries_from h.records (n - k) k ≡ kept_entries h
      same = rw (f, e)

      split :
          text_of (hub_form l) (head ++ (cells ++ (nexts ++ kept))) ≡
          text_of (hub_form l) head ++ (text_of (hub_form l) cells ++ (text_of (hub_form l) nexts ++ text_of (hub_form l)
          kept))
      split =
          text_append (hub_form l) head (cells ++ (nexts ++ kept)) ∙
          ap (λ x. text_of (hub_form l) head ++ x)
          (text_append (hub_form l) cells (nexts ++ kept) ∙
          ap (λ x. text_of (hub_form l) cells ++ x) (text_append (hub_form l) nexts kept))
