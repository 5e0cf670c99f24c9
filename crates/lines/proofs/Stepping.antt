-- What one byte does to a field. Assumes nothing.
use Prim.Native.Nat.{ℕ, ◌+◌, ◌-◌, ◌*◌, ◌≤◌, ◌<◌}
use native.Mathlib.Numerals.{add-one}
use native.Mathlib.Omega.{arith}
use mathlib.Core.Bool.{Bool, true, false}
use mathlib.Core.List.{List, ◌∷◌}
use mathlib.Core.Path.{◌≡◌, refl, sym, ◌∙◌}
use lib.Dec.{eqb}
use lib.ListN.{length, get_or}
use lib.Seq.{drop-cons, drop-length}
use borrow.Author.Tests.{lt-ltb, le-ltb, le-leb, lt-leb, eq-eqb, ne_eqb, eqb-true, eqb-false}
use Rattle.std.specs.Prelude.{if◌then◌else◌}
use Rattle.lines.specs.Fields.{got, wrong, digits, number, field}
use Rattle.lines.specs.Steps.{resume}
use Rattle.lines.specs.declared.Field.{Field}
use Rattle.lines.specs.declared.Reading.{Reading}

module _ (f : Field) (r : Reading) (b : ℕ) (t : List ℕ) where
  at_key :
      r.seen < length f.key.now →
      resume f r (b ∷ t) ≡ (if eqb b (get_or f.key.now r.seen 0) then resume f (record { seen = r.seen + 1; value = r.value }) t else wrong)
  unfolding resume field
  at_key h =
      rw (
        le-leb r.seen (length f.key.now) (omega arith),
        le-leb (r.seen + 1) (length f.key.now) (omega arith),
        drop-cons f.key.now r.seen 0 h,
        add-one,
      )

  at_first : r.seen ≡ length f.key.now → resume f r (b ∷ t) ≡ number f.low f.top f.end (b ∷ t)
  unfolding resume field
  at_first h = rw (h, le-leb (length f.key.now) (length f.key.now) (omega arith), drop-length f.key.now)

  at_digits : length f.key.now < r.seen → resume f r (b ∷ t) ≡ digits f.top f.end r.value (b ∷ t)
  unfolding resume
  at_digits h = rw (lt-leb r.seen (length f.key.now) h)

  past : (q : Reading) → length f.key.now < q.seen → resume f q t ≡ digits f.top f.end q.value t
  unfolding resume
  past q h = rw (lt-leb q.seen (length f.key.now) h)

  pub key_on : r.seen < length f.key.now → b ≡ get_or f.key.now r.seen 0 → resume f r (b ∷ t) ≡ resume f (record { seen = r.seen + 1; value = r.value }) t
  key_on h e = at_key h ∙ rw (eq-eqb b (get_or f.key.now r.seen 0) e)

  pub key_off : r.seen < length f.key.now → (b ≡ get_or f.key.now r.seen 0 → ⊥) → resume f r (b ∷ t) ≡ wrong
  key_off h e = at_key h ∙ rw (ne_eqb b (get_or f.key.now r.seen 0) e)

  pub ends : length f.key.now < r.seen → b ≡ f.end → resume f r (b ∷ t) ≡ got r.value t
  unfolding digits
  ends h e = at_digits h ∙ rw (eq-eqb b f.end e)

  pub first_low : r.seen ≡ length f.key.now → b < 48 + f.low → resume f r (b ∷ t) ≡ wrong
  unfolding number
  first_low h l = at_first h ∙ rw (lt-leb (48 + f.low) b l)

  first_high : r.seen ≡ length f.key.now → 48 + f.low ≤ b → 57 < b → resume f r (b ∷ t) ≡ wrong
  unfolding number
  first_high h l m = at_first h ∙ rw (le-leb (48 + f.low) b l, lt-leb b 57 m)

  pub first_over :
      r.seen ≡ length f.key.now → 48 + f.low ≤ b → b ≤ 57 → f.top < b - 48 → resume f r (b ∷ t) ≡ wrong
  unfolding number
  first_over h l m o = at_first h ∙ rw (le-leb (48 + f.low) b l, le-leb b 57 m, lt-leb (b - 48) f.top o)

  pub first_on :
      r.seen ≡ length f.key.now → 48 + f.low ≤ b → b ≤ 57 → b - 48 ≤ f.top →
      resume f r (b ∷ t) ≡ resume f (record { seen = r.seen + 1; value = b - 48 }) t
  unfolding number
  first_on h l m o =
      at_first h ∙ rw (le-leb (48 + f.low) b l, le-leb b 57 m, le-leb (b - 48) f.top o)
      (sym (past (record { seen = r.seen + 1; value = b - 48 }) (omega arith)))

  more_low : length f.key.now < r.seen → (b ≡ f.end → ⊥) → b < 48 → resume f r (b ∷ t) ≡ wrong
  unfolding digits
  more_low h n l = at_digits h ∙ rw (ne_eqb b f.end n, lt-leb 48 b l)

  module _ (h : length f.key.now < r.seen) (n : b ≡ f.end → ⊥) (l : 48 ≤ b) where
    more_high : 57 < b → resume f r (b ∷ t) ≡ wrong
    unfolding digits
    more_high m = at_digits h ∙ rw (ne_eqb b f.end n, le-leb 48 b l, lt-leb b 57 m)

    module _ (m : b ≤ 57) where
      pub more_zero : r.value ≡ 0 → resume f r (b ∷ t) ≡ wrong
      unfolding digits
      more_zero z = at_digits h ∙ rw (ne_eqb b f.end n, le-leb 48 b l, le-leb b 57 m, le-ltb 0 r.value (omega arith))

      module _ (z : 0 < r.value) where
        pub more_over : f.top < r.value * 10 + (b - 48) → resume f r (b ∷ t) ≡ wrong
        unfolding digits
        more_over o =
            at_digits h ∙ rw (
              ne_eqb b f.end n,
              le-leb 48 b l,
              le-leb b 57 m,
              lt-ltb 0 r.value z,
              lt-leb (r.value * 10 + (b - 48)) f.top o,
            )

        pub more_on :
            r.value * 10 + (b - 48) ≤ f.top → resume f r (b ∷ t) ≡ resume f (record { seen = r.seen; value = r.value * 10 + (b - 48) }) t
        unfolding digits
        more_on o =
            at_digits h ∙ rw (
              ne_eqb b f.end n,
              le-leb 48 b l,
              le-leb b 57 m,
              lt-ltb 0 r.value z,
              le-leb (r.value * 10 + (b - 48)) f.top o,
            )
            (sym (past (record { seen = r.seen; value = r.value * 10 + (b - 48) }) h))

-- past the key, a byte that is neither the end nor a digit is wrong
module _ (f : Field) (r : Reading) (b : ℕ) (t : List ℕ) (h : length f.key.now ≤ r.seen) (n : b ≡ f.end → ⊥) where
  pub low_byte : b < 48 → resume f r (b ∷ t) ≡ wrong
  low_byte l = go (eqb r.seen (length f.key.now)) refl
    where
      go : (x : Bool) → eqb r.seen (length f.key.now) ≡ x → resume f r (b ∷ t) ≡ wrong
      go true e = first_low f r b t (eqb-true r.seen (length f.key.now) e) (omega arith)
      go false e = let d = eqb-false r.seen (length f.key.now) e in more_low f r b t (omega arith) n l

  pub high_byte : f.low ≤ 1 → 57 < b → resume f r (b ∷ t) ≡ wrong
  high_byte m l = go (eqb r.seen (length f.key.now)) refl
    where
      go : (x : Bool) → eqb r.seen (length f.key.now) ≡ x → resume f r (b ∷ t) ≡ wrong
      go true e = first_high f r b t (eqb-true r.seen (length f.key.now) e) (omega arith) l
      go false e = let d = eqb-false r.seen (length f.key.now) e in more_high f r b t (omega arith) n (omega arith) l
