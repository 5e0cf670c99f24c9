-- `field` reads exactly what `field_of` writes. Assumes nothing.
use Prim.Native.Nat.{ℕ, zero, suc, ◌+◌, ◌-◌, ◌*◌, ◌/◌, ◌%◌, ◌≤◌, ◌<◌}
use mathlib.Core.Bool.{Bool, true, false, ◌&&◌}
use mathlib.Core.Path.{◌≡◌, refl, sym, ◌∙◌, ap₂}
use mathlib.Core.List.{List, [], ◌∷◌, ◌++◌, append_assoc}
use native.Mathlib.Omega.{arith}
use lib.Dec.{ltb, leb, eqb}
use borrow.Author.Tests.{ltb-true, ltb-false, lt-ltb, leb-true, le-leb, eqb-true, eq-eqb, ne_eqb}
use Rattle.std.specs.Prelude.{if◌then◌else◌}
use Rattle.basics.proofs.Choice.{and_both}
use Rattle.lines.specs.Decimals.{digits_in, decimal}
use Rattle.lines.specs.Fields.{Read, got, wrong, field_of, digits, number, field}
use Rattle.lines.proofs.Decimals.{decimal_digit, decimal_step}

-- what was read, put behind what was read before it
pub record Reads (low top end : ℕ) (t : List ℕ) (n : ℕ) (r : List ℕ) : Type 0 where
  pub text : t ≡ decimal n ++ (end ∷ r)
  pub least : low ≤ n
  pub most : n ≤ top

-- a wrong text is not read
pub never : {A : Type 0} {B : Type 0} (v : A) (r : List ℕ) → ◌≡◌ {A = Read A} wrong (got v r) → B
never v r e = let z : ◌≡◌ {A = ℕ} 0 1 = cc in absurd (omega arith)

digits_sound :
    (top end v : ℕ) (t : List ℕ) (n : ℕ) (r : List ℕ) → v ≤ top → digits top end v t ≡ got n r →
    Reads v top end (decimal v ++ t) n r
unfolding digits
digits_sound top end v [] n r h e = never n r e
digits_sound top end v (b ∷ t) n r h e =
    go (λ w g. digits_sound top end w t n r g) (eqb b end) refl
    (leb 48 b && (leb b 57 && (ltb 0 v && leb (v * 10 + (b - 48)) top))) refl
  where
    go :
        ((w : ℕ) → w ≤ top → digits top end w t ≡ got n r → Reads w top end (decimal w ++ t) n r) →
        (x : Bool) → eqb b end ≡ x → (y : Bool) →
        (leb 48 b && (leb b 57 && (ltb 0 v && leb (v * 10 + (b - 48)) top))) ≡ y →
        Reads v top end (decimal v ++ (b ∷ t)) n r
    go ih true p y q =
        let g : got v t ≡ got n r = rw p at e in
        let vn : v ≡ n = cc in
        let tr : t ≡ r = cc in
        let be : b ≡ end = eqb-true b end p in
        record { text = cc; least = omega arith; most = omega arith }
    go ih false p true q =
        let g : digits top end (v * 10 + (b - 48)) t ≡ got n r = rw (p, q) at e in
        let (x1, q2) = and_both (leb 48 b) _ q in
        let (x2, q3) = and_both (leb b 57) _ q2 in
        let (x3, x4) = and_both (ltb 0 v) _ q3 in
        let a1 = leb-true 48 b x1 in
        let a2 = leb-true b 57 x2 in
        let a3 = ltb-true 0 v x3 in
        let a4 = leb-true (v * 10 + (b - 48)) top x4 in
        let i = ih (v * 10 + (b - 48)) a4 g in
        let s : decimal (v * 10 + (b - 48)) ≡ decimal v ++ ((48 + (b - 48)) ∷ []) =
        decimal_step v (b - 48) a3 (omega arith) in
        let bb : 48 + (b - 48) ≡ b = omega arith in
        let f : decimal v ++ (b ∷ t) ≡ decimal (v * 10 + (b - 48)) ++ t = rw (s, bb, append_assoc) in
        record { text = f ∙ i.text; least = omega (arith, i.least); most = i.most }
    go ih false p false q = never n r (rw (p, q) at e)

number_sound :
    (low top end : ℕ) (t : List ℕ) (n : ℕ) (r : List ℕ) → number low top end t ≡ got n r → Reads low top end t n r
unfolding number
number_sound low top end [] n r e = never n r e
number_sound low top end (b ∷ t) n r e = go (leb (48 + low) b && (leb b 57 && leb (b - 48) top)) refl
  where
    go :
        (y : Bool) → (leb (48 + low) b && (leb b 57 && leb (b - 48) top)) ≡ y → Reads low top end (b ∷ t) n r
    go true q =
        let g : digits top end (b - 48) t ≡ got n r = rw q at e in
        let (x1, q2) = and_both (leb (48 + low) b) _ q in
        let (x2, x3) = and_both (leb b 57) _ q2 in
        let a1 = leb-true (48 + low) b x1 in
        let a2 = leb-true b 57 x2 in
        let a3 = leb-true (b - 48) top x3 in
        let i = digits_sound top end (b - 48) t n r a3 g in
        let s : decimal (b - 48) ≡ (48 + (b - 48)) ∷ [] = decimal_digit (b - 48) (omega arith) in
        let bb : 48 + (b - 48) ≡ b = omega arith in
        let f : b ∷ t ≡ decimal (b - 48) ++ t = rw (s, bb) in
        record { text = f ∙ i.text; least = omega (arith, i.least); most = i.most }
    go false q = never n r (rw q at e)

-- what is read is a field
pub field_sound :
    (key : List ℕ) (low top end : ℕ) (t : List ℕ) (n : ℕ) (r : List ℕ) → field key low top end t ≡ got n r →
    (t ≡ field_of key end n ++ r) × ((low ≤ n) × (n ≤ top))
unfolding field field_of
field_sound [] low top end t n r e =
    let i = number_sound low top end t n r e in
    (i.text ∙ sym (append_assoc (decimal n) (end ∷ []) r), (i.least, i.most))
field_sound (k ∷ key) low top end [] n r e = never n r e
field_sound (k ∷ key) low top end (b ∷ t) n r e = go (λ g. field_sound key low top end t n r g) (eqb b k) refl
  where
    go :
        (field key low top end t ≡ got n r → (t ≡ field_of key end n ++ r) × ((low ≤ n) × (n ≤ top))) → (y : Bool) →
        eqb b k ≡ y → (b ∷ t ≡ (k ∷ field_of key end n) ++ r) × ((low ≤ n) × (n ≤ top))
    go ih true q = let i = ih (rw q at e) in (ap₂ ◌∷◌ (eqb-true b k q) i.0, i.1)
    go ih false q = never n r (rw q at e)

-- reading the digits of n leaves `digits` at n
number_digits :
    (f n low top end : ℕ) (x : List ℕ) → end < 48 → n < f → low ≤ 1 → low ≤ n → n ≤ top →
    number low top end (digits_in f n ++ x) ≡ digits top end n x
unfolding digits_in number digits
number_digits zero n low top end x low_end nf l1 ln nt = absurd (omega arith)
number_digits (suc f) n low top end x low_end nf l1 ln nt =
    go (λ y a b c. number_digits f (n / 10) low top end y low_end a l1 b c) (ltb n 10) refl
  where
    go :
        ((y : List ℕ) → n / 10 < f → low ≤ n / 10 → n / 10 ≤ top →
        number low top end (digits_in f (n / 10) ++ y) ≡ digits top end (n / 10) y) → (b : Bool) → ltb n 10 ≡ b →
        number low top end
        ((if ltb n 10 then (48 + n) ∷ [] else digits_in f (n / 10) ++ ((48 + n % 10) ∷ [])) ++ x) ≡ digits top end n x
    go ih true e =
        let h : n < 10 = ltb-true n 10 e in
        let s : 48 + n - 48 ≡ n = omega arith in
        rw (e, s, le-leb (48 + low) (48 + n) (omega arith), le-leb (48 + n) 57 (omega arith), le-leb n top nt)
    go ih false e =
        let h : 10 ≤ n = ltb-false n 10 e in
        let s : n / 10 * 10 + (48 + n % 10 - 48) ≡ n = omega arith in
        let i = ih ((48 + n % 10) ∷ x) (omega arith) (omega arith) (omega arith) in
        rw (e, append_assoc)
        (i ∙ rw (
          s,
          ne_eqb (48 + n % 10) end (λ q. omega (arith, q)),
          le-leb 48 (48 + n % 10) (omega arith),
          le-leb (48 + n % 10) 57 (omega arith),
          lt-ltb 0 (n / 10) (omega arith),
          le-leb n top nt,
        ))

-- every field in range is read
pub field_complete :
    (key : List ℕ) (low top end n : ℕ) (r : List ℕ) → end < 48 → low ≤ 1 → low ≤ n → n ≤ top →
    field key low top end (field_of key end n ++ r) ≡ got n r
unfolding field field_of digits decimal
field_complete [] low top end n r low_end l1 ln nt =
    rw (append_assoc (decimal n) (end ∷ []) r)
    (number_digits (suc n) n low top end (end ∷ r) low_end (omega arith) l1 ln nt ∙ rw (eq-eqb end end refl))
field_complete (k ∷ key) low top end n r low_end l1 ln nt =
    rw (eq-eqb k k refl) (field_complete key low top end n r low_end l1 ln nt)
