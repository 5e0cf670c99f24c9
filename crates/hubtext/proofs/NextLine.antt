-- The next line of the hub's text is read as it is written. Assumes nothing.
use Prim.Native.Nat.{ℕ, ◌+◌, ◌-◌, ◌≤◌}
use native.Mathlib.Omega.{arith}
use mathlib.Core.Bool.{Bool, true, false}
use mathlib.Core.List.{List, ◌∷◌, ◌++◌, append_assoc}
use mathlib.Core.Path.{◌≡◌, refl, sym, ap, subst, ◌∙◌}
use lib.Dec.{ltb, eqb}
use lib.ListN.{length}
use Rattle.std.specs.Prelude.{if◌then◌else◌}
use Rattle.basics.proofs.Choice.{by_cases}
use Rattle.operation.specs.Limits.{Limits}
use Rattle.lines.specs.Decimals.{decimal}
use Rattle.lines.specs.Fields.{LF, Read, got, wrong, field_of, field, hex_line}
use Rattle.lines.specs.Hex.{hex_of}
use Rattle.lines.specs.Same.{NoLF}
use Rattle.lines.specs.Texts.{Reads}
use Rattle.lines.proofs.Decimals.{NoLF-append, NoLF-decimal}
use Rattle.lines.proofs.Fields.{never, field_sound, field_complete}
use Rattle.lines.proofs.Hexes.{Bytes, hex_no_lf, hex_sound, hex_complete}
use Rattle.lines.proofs.Sharing.{highs, high_no_lf, no_lf_more}
use Rattle.lines.proofs.Exact.{Line}
use Rattle.hub.specs.Ring.{total, kept_count}
use Rattle.hub.specs.History.{Decision}
use Rattle.hubtext.specs.Keys.{form=, machines=, cells=, cell=, next=, rec=, comma}
use Rattle.hubtext.specs.Values.{
  Value,
  number,
  entry,
  line_of,
  numbers_of,
  entries_of,
  machines_in,
  width_in,
  nexts_in,
}
use Rattle.hubtext.specs.Reading.{
  Want,
  field_line,
  record_line,
  no_line,
  want,
  fits,
  on_number,
  on_operation,
  on_machine,
  on_want,
  hub_form,
}

-- a key of letters has no LF
no_lf : (key : List ℕ) → highs key ≡ true → NoLF key
no_lf key h = high_no_lf key h

-- a line that is wanted has a key with no LF, and its least number is 0 or 1
unfoldable Fine : Want → Type 0
Fine (field_line key low top) = NoLF key × (low ≤ 1)
Fine record_line = Unit {0}
Fine no_line = Unit {0}

wants_fine : (l : Limits) (ns : List ℕ) (records : ℕ) → Fine (want l ns records)
unfolding want Fine highs
wants_fine l ns records =
    by_cases Fine (eqb (length ns) 0) (λ _. (no_lf form= refl, omega arith)) λ _.
    by_cases Fine (eqb (length ns) 1) (λ _. (no_lf machines= refl, omega arith)) λ _.
    by_cases Fine (eqb (length ns) 2) (λ _. (no_lf cells= refl, omega arith)) λ _.
    by_cases Fine (ltb (length ns) (3 + width_in ns)) (λ _. (no_lf cell= refl, omega arith)) λ _.
    by_cases Fine (ltb (length ns) (3 + width_in ns + machines_in ns)) (λ _. (no_lf next= refl, omega arith)) λ _.
    by_cases Fine (ltb records (kept_count (total (nexts_in ns)))) (λ _. tt) (λ _. tt)

-- what was read, taken apart
on_number_lem : (l : Limits) (key : List ℕ) (x : Read ℕ) (v : Value) (r : List ℕ) → on_number l key x ≡ got v r → (n :
    ℕ) × ((x ≡ got n r) × (v ≡ number key n))
on_number_lem l key wrong v r e = never v r e
on_number_lem l key (got n q) v r e = let a : number key n ≡ v = cc in let b : q ≡ r = cc in (n, (ap (got n) b, sym a))

-- a number's line
number_line : (key : List ℕ) (n : ℕ) (r : List ℕ) → field_of key LF n ++ r ≡ line_of (number key n) ++ (LF ∷ r)
unfolding field_of
number_line key n r = simp append_assoc

-- a record's line
pub entry_line :
    (e : Decision) (r : List ℕ) →
    field_of rec= comma e.machine ++ (hex_of e.op ++ (LF ∷ r)) ≡ line_of (entry e) ++ (LF ∷ r)
unfolding field_of
entry_line e r = simp append_assoc

module _ (l : Limits) (vs : List Value) where
  abbrev ns : List ℕ
  ns = numbers_of vs

  abbrev es : List Decision
  es = entries_of vs

  -- where a number is wanted
  pub number_reads :
      (key : List ℕ) (low top n : ℕ) → want l ns (length es) ≡ field_line key low top → low ≤ n → n ≤ top →
      Reads (hub_form l) vs (number key n)
  unfolding Fine
  number_reads key low top n w a b r =
      let fine : Fine (field_line key low top) = subst Fine w (wants_fine l ns (length es)) in
      ap (on_want l ns es (line_of (number key n) ++ (LF ∷ r))) w ∙
      ap (on_number l key)
      (ap (field key low top LF) (sym (number_line key n r)) ∙ field_complete key low top LF n r (omega arith)
      fine.1 a b)

  number_read :
      (key : List ℕ) (low top : ℕ) (t : List ℕ) (v : Value) (r : List ℕ) →
      want l ns (length es) ≡ field_line key low top → on_number l key (field key low top LF t) ≡ got v r →
      Line (hub_form l) vs t v r
  unfolding Fine
  number_read key low top t v r w e =
      let fine : Fine (field_line key low top) = subst Fine w (wants_fine l ns (length es)) in
      let i = on_number_lem l key (field key low top LF t) v r e in
      let s = field_sound key low top LF t i.0 r i.1.0 in
      subst (λ (x : Value). Line (hub_form l) vs t x r) (sym i.1.1)
      (record {
        text = s.0 ∙ number_line key i.0 r;
        no_lf = NoLF-append key (decimal i.0) fine.0 (NoLF-decimal i.0);
        again = number_reads key low top i.0 w s.1.0 s.1.1;
      })

  -- where a record is wanted
  pub entry_reads :
      (e : Decision) → want l ns (length es) ≡ record_line → e.machine ≤ machines_in ns - 1 → Bytes e.op →
      length e.op ≤ l.bytes → fits l ns es e ≡ true → Reads (hub_form l) vs (entry e)
  entry_reads e w a b c f r =
      ap (on_want l ns es (line_of (entry e) ++ (LF ∷ r))) w ∙
      (ap (on_machine l ns es)
      (ap (field rec= 0 (machines_in ns - 1) comma) (sym (entry_line e r)) ∙ field_complete rec= 0 (machines_in ns - 1)
      comma e.machine (hex_of e.op ++ (LF ∷ r)) (omega arith) (omega arith) (omega arith) a) ∙
      (ap (on_operation l ns es e.machine) (hex_complete l.bytes e.op r c b) ∙ rw f))

  -- a record that was read, taken apart
  record Entered (x : Read ℕ) (v : Value) (r : List ℕ) : Type 0 where
    pub machine : ℕ
    pub rest : List ℕ
    pub op : List ℕ
    pub machine_read : x ≡ got machine rest
    pub op_read : hex_line l.bytes rest ≡ got op r
    pub fitting : fits l ns es (record { machine = machine; op = op }) ≡ true
    pub is : v ≡ entry (record { machine = machine; op = op })

  on_machine_lem : (x : Read ℕ) (v : Value) (r : List ℕ) → on_machine l ns es x ≡ got v r → Entered x v r
  on_machine_lem wrong v r e = never v r e
  on_machine_lem (got m q) v r e = go (hex_line l.bytes q) refl
    where
      go : (y : Read (List ℕ)) → hex_line l.bytes q ≡ y → Entered (got m q) v r
      go wrong h = never v r (sym (ap (on_operation l ns es m) h) ∙ e)
      go (got op s) h = by_fit (fits l ns es (record { machine = m; op = op })) refl
        where
          told :
              (if fits l ns es (record { machine = m; op = op }) then got (entry (record { machine = m; op = op })) s
              else wrong) ≡ got v r
          told = sym (ap (on_operation l ns es m) h) ∙ e

          by_fit : (b : Bool) → fits l ns es (record { machine = m; op = op }) ≡ b → Entered (got m q) v r
          by_fit true f =
              let g : got (entry (record { machine = m; op = op })) s ≡ got v r = rw f at told in
              let a : entry (record { machine = m; op = op }) ≡ v = cc in
              let b : s ≡ r = cc in
              record {
                machine = m;
                rest = q;
                op = op;
                machine_read = refl;
                op_read = h ∙ ap (got op) b;
                fitting = f;
                is = sym a;
              }
          by_fit false f = never v r (rw f at told)

  entry_read :
      (t : List ℕ) (v : Value) (r : List ℕ) → want l ns (length es) ≡ record_line →
      on_machine l ns es (field rec= 0 (machines_in ns - 1) comma t) ≡ got v r → Line (hub_form l) vs t v r
  unfolding highs
  entry_read t v r w e =
      let i = on_machine_lem (field rec= 0 (machines_in ns - 1) comma t) v r e in
      let d : Decision = record { machine = i.machine; op = i.op } in
      let s = field_sound rec= 0 (machines_in ns - 1) comma t i.machine i.rest i.machine_read in
      let h = hex_sound l.bytes i.rest i.op r i.op_read in
      subst (λ (x : Value). Line (hub_form l) vs t x r) (sym i.is)
      (record {
        text = s.0 ∙ (ap (λ x. field_of rec= comma i.machine ++ x) h.text ∙ entry_line d r);
        no_lf =
            NoLF-append rec= (decimal i.machine ++ (comma ∷ hex_of i.op)) (no_lf rec= refl)
            (NoLF-append (decimal i.machine) (comma ∷ hex_of i.op) (NoLF-decimal i.machine)
            (no_lf_more comma (hex_of i.op) no_comma (hex_no_lf i.op h.bytes)));
        again = entry_reads d w s.1.1 h.bytes h.short i.fitting;
      })
    where
      no_comma : comma ≡ LF → ⊥
      no_comma q = omega (arith, q)

  -- the next line is the line of its value
  pub line_read : (t : List ℕ) (v : Value) (r : List ℕ) → (hub_form l).next vs t ≡ got v r → Line (hub_form l) vs t v r
  line_read t v r e = go (want l ns (length es)) refl
    where
      go : (x : Want) → want l ns (length es) ≡ x → Line (hub_form l) vs t v r
      go (field_line key low top) w =
          number_read key low top t v r w (sym (ap (on_want l ns es t) w) ∙ e)
      go record_line w = entry_read t v r w (sym (ap (on_want l ns es t) w) ∙ e)
      go no_line w = never v r (sym (ap (on_want l ns es t) w) ∙ e)

  -- and what that value is
  pub number_value :
      (key : List ℕ) (low top : ℕ) (t : List ℕ) (v : Value) (r : List ℕ) →
      want l ns (length es) ≡ field_line key low top → (hub_form l).next vs t ≡ got v r →
      (n : ℕ) × ((v ≡ number key n) × ((low ≤ n) × (n ≤ top)))
  number_value key low top t v r w e =
      let i = on_number_lem l key (field key low top LF t) v r (sym (ap (on_want l ns es t) w) ∙ e) in
      let s = field_sound key low top LF t i.0 r i.1.0 in
      (i.0, (i.1.1, s.1))

  pub entry_value :
      (t : List ℕ) (v : Value) (r : List ℕ) → want l ns (length es) ≡ record_line → (hub_form l).next vs t ≡ got v r →
      (e : Decision) ×
      ((v ≡ entry e) × ((e.machine ≤ machines_in ns - 1) × (Bytes e.op × (fits l ns es e ≡ true))))
  entry_value t v r w e =
      let i = on_machine_lem (field rec= 0 (machines_in ns - 1) comma t) v r (sym (ap (on_want l ns es t) w) ∙ e) in
      let s = field_sound rec= 0 (machines_in ns - 1) comma t i.machine i.rest i.machine_read in
      let h = hex_sound l.bytes i.rest i.op r i.op_read in
      (record { machine = i.machine; op = i.op }, (i.is, (s.1.1, (h.bytes, i.fitting))))

  pub nothing_read :
      {B : Type 0} (t : List ℕ) (v : Value) (r : List ℕ) → want l ns (length es) ≡ no_line →
      (hub_form l).next vs t ≡ got v r → B
  nothing_read t v r w e = never v r (sym (ap (on_want l ns es t) w) ∙ e)
