-- `hex_line` reads exactly what `hex_of` writes. Assumes nothing.
use Prim.Native.Nat.{ℕ, zero, suc, ◌+◌, ◌-◌, ◌*◌, ◌/◌, ◌%◌, ◌≤◌, ◌<◌}
use mathlib.Core.Bool.{Bool, true, false, ◌&&◌}
use mathlib.Core.Path.{◌≡◌, refl, sym, ap}
use mathlib.Core.List.{List, [], ◌∷◌, ◌++◌}
use native.Mathlib.Omega.{arith}
use lib.Dec.{ltb, leb, eqb}
use lib.ListN.{length}
use borrow.Author.Tests.{ltb-true, ltb-false, lt-ltb, le-ltb, leb-true, leb-false, le-leb, lt-leb, eqb-true, ne_eqb}
use Rattle.basics.proofs.Choice.{and_both}
use Rattle.lines.specs.Hex.{hex_digit, hex_of, is_hex, hex_value}
use Rattle.lines.specs.Fields.{LF, Read, got, wrong, and_byte, hex_line}
use Rattle.lines.specs.Same.{NoLF}
use Rattle.lines.proofs.Fields.{never}

-- a digit, and back
pub record Digit (d : ℕ) : Type 0 where
  pub hex : is_hex (hex_digit d) ≡ true
  pub value : hex_value (hex_digit d) ≡ d
  pub no_lf : hex_digit d ≡ LF → ⊥

pub digit : (d : ℕ) → d < 16 → Digit d
unfolding hex_digit is_hex hex_value
digit d h = go (ltb d 10) refl
  where
    go : (x : Bool) → ltb d 10 ≡ x → Digit d
    go true e =
        let l : d < 10 = ltb-true d 10 e in
        let s : 48 + d - 48 ≡ d = omega arith in
        record {
          hex = rw (e, le-leb 48 (48 + d) (omega arith), le-leb (48 + d) 57 (omega arith));
          value = rw (e, le-leb (48 + d) 57 (omega arith), s);
          no_lf = rw e (omega arith);
        }
    go false e =
        let l : 10 ≤ d = ltb-false d 10 e in
        let s : 87 + d - 87 ≡ d = omega arith in
        record {
          hex =
              rw (
                e,
                le-leb 48 (87 + d) (omega arith),
                lt-leb (87 + d) 57 (omega arith),
                le-leb 97 (87 + d) (omega arith),
                le-leb (87 + d) 102 (omega arith),
              );
          value = rw (e, lt-leb (87 + d) 57 (omega arith), s);
          no_lf = rw e (omega arith);
        }

-- a hexadecimal digit's value, and back
pub record Value (c : ℕ) : Type 0 where
  pub small : hex_value c < 16
  pub digit_of : hex_digit (hex_value c) ≡ c

pub value : (c : ℕ) → is_hex c ≡ true → Value c
unfolding hex_digit is_hex hex_value
value c h = go (leb c 57) refl (leb 48 c) refl
  where
    go : (x : Bool) → leb c 57 ≡ x → (y : Bool) → leb 48 c ≡ y → Value c
    go true e true f =
        let a : c ≤ 57 = leb-true c 57 e in
        let b : 48 ≤ c = leb-true 48 c f in
        let s : 48 + (c - 48) ≡ c = omega arith in
        record { small = rw e (omega arith); digit_of = rw (e, lt-ltb (c - 48) 10 (omega arith), s) }
    go true e false f =
        let a : c ≤ 57 = leb-true c 57 e in
        let z : (leb 97 c && leb c 102) ≡ true = rw f at h in
        let b : 97 ≤ c = leb-true 97 c (and_both (leb 97 c) _ z).0 in
        absurd (omega arith)
    go false e true f =
        let a : 57 < c = leb-false c 57 e in
        let z : (leb 97 c && leb c 102) ≡ true = rw (f, e) at h in
        let b : 97 ≤ c = leb-true 97 c (and_both (leb 97 c) _ z).0 in
        let d : c ≤ 102 = leb-true c 102 (and_both (leb 97 c) _ z).1 in
        let s : 87 + (c - 87) ≡ c = omega arith in
        record { small = rw e (omega arith); digit_of = rw (e, le-ltb (c - 87) 10 (omega arith), s) }
    go false e false f =
        let a : 57 < c = leb-false c 57 e in
        let b : c < 48 = leb-false 48 c f in
        absurd (omega arith)

-- every number of the list is a byte
unfoldable pub Bytes : List ℕ → Type 0
Bytes [] = Unit {0}
Bytes (b ∷ bs) = (b < 256) × Bytes bs

pub hex_no_lf : (bs : List ℕ) → Bytes bs → NoLF (hex_of bs)
unfolding hex_of NoLF Bytes
hex_no_lf [] h = tt
hex_no_lf (b ∷ bs) h =
    ((digit (b / 16) (omega (arith, h.0))).no_lf, ((digit (b % 16) (omega arith)).no_lf, hex_no_lf bs h.1))

pub hex_complete :
    (k : ℕ) (bs r : List ℕ) → length bs ≤ k → Bytes bs → hex_line k (hex_of bs ++ (LF ∷ r)) ≡ got bs r
unfolding hex_of hex_line and_byte Bytes
hex_complete zero [] r l h = refl
hex_complete (suc k) [] [] l h = refl
hex_complete (suc k) [] (b ∷ r) l h = refl
hex_complete zero (b ∷ bs) r l h = absurd (omega arith)
hex_complete (suc k) (b ∷ bs) r l h =
    let p = digit (b / 16) (omega (arith, h.0)) in
    let q = digit (b % 16) (omega arith) in
    let e : b / 16 * 16 + b % 16 ≡ b = omega arith in
    rw (
      ne_eqb (hex_digit (b / 16)) LF p.no_lf,
      p.hex,
      q.hex,
      p.value,
      q.value,
      e,
      hex_complete k bs r (omega arith) h.1,
    )

pub record HexText (k : ℕ) (t bs r : List ℕ) : Type 0 where
  pub text : t ≡ hex_of bs ++ (LF ∷ r)
  pub short : length bs ≤ k
  pub bytes : Bytes bs

and_byte_lem :
    (b : ℕ) (x : Read (List ℕ)) (bs r : List ℕ) → and_byte b x ≡ got bs r →
    (cs : List ℕ) × ((x ≡ got cs r) × (bs ≡ b ∷ cs))
unfolding and_byte
and_byte_lem b wrong bs r e = never bs r e
and_byte_lem b (got cs q) bs r e =
    let qr : q ≡ r = cc in
    let bb : b ∷ cs ≡ bs = cc in
    (cs, (ap (got cs) qr, sym bb))

-- a line that ends at once
ended : (k a : ℕ) (t bs r : List ℕ) → eqb a LF ≡ true → ◌≡◌ {A = Read (List ℕ)} (got [] t) (got bs r) → HexText k
    (a ∷ t) bs r
unfolding hex_of Bytes
ended k a t bs r p g =
    let n : [] ≡ bs = cc in
    let m : t ≡ r = cc in
    rw (← n, ← m) (record { text = ap (λ (x : ℕ). x ∷ t) (eqb-true a LF p); short = omega arith; bytes = tt })

pub hex_sound : (k : ℕ) (t bs r : List ℕ) → hex_line k t ≡ got bs r → HexText k t bs r
unfolding hex_line hex_of Bytes
hex_sound zero [] bs r e = never bs r e
hex_sound (suc k) [] bs r e = never bs r e
hex_sound zero (a ∷ t) bs r e = go (eqb a LF) refl
  where
    go : (x : Bool) → eqb a LF ≡ x → HexText zero (a ∷ t) bs r
    go true p = ended zero a t bs r p (rw p at e)
    go false p = never bs r (rw p at e)
hex_sound (suc k) (a ∷ []) bs r e = go (eqb a LF) refl
  where
    go : (x : Bool) → eqb a LF ≡ x → HexText (suc k) (a ∷ []) bs r
    go true p = ended (suc k) a [] bs r p (rw p at e)
    go false p = never bs r (rw p at e)
hex_sound (suc k) (a ∷ b ∷ t) bs r e =
    go (λ cs g. hex_sound k t cs r g) (eqb a LF) refl (is_hex a && is_hex b) refl
  where
    go :
        ((cs : List ℕ) → hex_line k t ≡ got cs r → HexText k t cs r) → (x : Bool) → eqb a LF ≡ x → (y : Bool) →
        (is_hex a && is_hex b) ≡ y → HexText (suc k) (a ∷ b ∷ t) bs r
    go ih true p y q = ended (suc k) a (b ∷ t) bs r p (rw p at e)
    go ih false p true q =
        let g : and_byte (hex_value a * 16 + hex_value b) (hex_line k t) ≡ got bs r = rw (p, q) at e in
        let n = and_byte_lem (hex_value a * 16 + hex_value b) (hex_line k t) bs r g in
        let u = value a (and_both (is_hex a) _ q).0 in
        let w = value b (and_both (is_hex a) _ q).1 in
        let i = ih n.0 n.1.0 in
        let s1 : (hex_value a * 16 + hex_value b) / 16 ≡ hex_value a = omega (arith, w.small) in
        let s2 : (hex_value a * 16 + hex_value b) % 16 ≡ hex_value b = omega (arith, w.small) in
        rw n.1.1
        (record {
          text = rw (s1, s2, u.digit_of, w.digit_of) (ap (λ (l : List ℕ). a ∷ b ∷ l) i.text);
          short = omega (arith, i.short);
          bytes = (omega (arith, u.small, w.small), i.bytes);
        })
    go ih false p false q = never bs r (rw (p, q) at e)
