-- Laws of laying a text into a buffer. Assumes nothing.
use Prim.Native.Nat.{ℕ, zero, suc, ◌+◌, ◌-◌, ◌/◌, ◌%◌, ◌^◌, ◌≤◌, ◌<◌}
use native.Mathlib.Nat.{one-le-pow}
use native.Mathlib.Numerals.{add-one}
use native.Mathlib.Omega.{arith}
use mathlib.Core.List.{List, [], ◌∷◌, ◌++◌, append_assoc, append-nil}
use mathlib.Core.Path.{◌≡◌, refl, sym, ap, subst, ◌∙◌}
use lib.ListN.{length, get_or, take}
use lib.Seq.{take-suc}
use borrow.Author.Tests.{lt-ltb}
use Rattle.io.specs.Digits.{last_digits, IsDigitCount}
use Rattle.lines.specs.Decimals.{decimal}
use Rattle.lines.specs.Fields.{field_of}
use Rattle.lines.specs.Hex.{hex_digit, hex_of}
use Rattle.lines.specs.Placing.{Laid, Puts}
use Rattle.lines.specs.Pens.{Lays}
use Rattle.lines.specs.declared.put.Pen.{Pen}
use Rattle.lines.proofs.Decimals.{decimal_digit, decimal_more, decimal_short}

-- nothing, and one piece after another
pub lays_none : (p : Pen) → Lays p p []
lays_none p = record {
  same_buffer = refl;
  puts = λ b t h. subst (λ (x : List ℕ). Laid b p.buf.now p.at x) (sym (append-nil t)) h;
}

pub lays_more : {p q r : Pen} {x y : List ℕ} → Lays p q x → Lays q r y → Lays p r (x ++ y)
lays_more {p} {q} {r} {x} {y} first then = record {
  same_buffer = then.same_buffer ∙ first.same_buffer;
  puts = λ b t h.
      subst (λ (z : List ℕ). Laid b r.buf.now r.at z) (append_assoc t x y) (then.puts b (t ++ x) (first.puts b t h));
}

-- the same piece
pub lays_same : {p q : Pen} {x y : List ℕ} → Lays p q x → x ≡ y → Lays p q y
lays_same {p} {q} laid e = subst (λ (z : List ℕ). Lays p q z) e laid

-- what the buffer holds when its pen is gone
pub lays_end :
    {p q : Pen} {x : List ℕ} {after : List ℕ} → Lays p q x → (p.buf.ghost_name ≡ q.buf.ghost_name → after ≡ q.buf.now) →
    Puts p.buf.now after p.at q.at x
lays_end laid last = rw (last (sym laid.same_buffer)) laid.puts

-- what `io::decimal` says of its digits is what `decimal` is
decimal_io : (k n : ℕ) → IsDigitCount 10 1 n k → last_digits 10 k n ≡ decimal n
decimal_io zero n f = absurd (omega (arith, f.0))
decimal_io (suc zero) n f =
    let h : n < 10 = f.1 in
    let e : n % 10 ≡ n = omega arith in
    rw (e, lt-ltb n 10 h) (sym (decimal_digit n h))
decimal_io (suc (suc j)) n f =
    let s1 : suc (suc j) - 1 ≡ suc j = omega arith in
    let s0 : suc j - 1 ≡ j = omega arith in
    let p : 10 ^ suc j ≤ n = rw s1 at (f.2 (omega arith)) in
    let q : n < 10 ^ suc (suc j) = f.1 in
    let one : 1 ≤ 10 ^ j = one-le-pow j 10 (omega arith) in
    let h : 10 ≤ n = omega arith in
    let i = decimal_io (suc j) (n / 10) (omega arith, omega arith, (λ _. rw s0 (omega arith))) in
    rw (lt-ltb (n % 10) 10 (omega arith), i) (sym (decimal_more n h))

-- no number of 64 bits has more than 20 digits
pub few_digits :
    (k n : ℕ) (out : List ℕ) → n < 10 ^ 20 → IsDigitCount 10 1 n k → take k out ≡ last_digits 10 k n →
    length (take k out) ≤ 20
few_digits k n out h f e = rw (e, decimal_io k n f) (decimal_short 19 n h)

pub puts_decimal :
    (b0 b1 : List ℕ) (a0 a1 k n : ℕ) (out : List ℕ) → IsDigitCount 10 1 n k → take k out ≡ last_digits 10 k n →
    Puts b0 b1 a0 a1 (take k out) → Puts b0 b1 a0 a1 (decimal n)
puts_decimal b0 b1 a0 a1 k n out f e p = subst (λ (z : List ℕ). Puts b0 b1 a0 a1 z) (e ∙ decimal_io k n f) p

pub lays_decimal :
    {p q : Pen} (k n : ℕ) (out : List ℕ) → IsDigitCount 10 1 n k → take k out ≡ last_digits 10 k n →
    Lays p q (take k out) → Lays p q (decimal n)
lays_decimal k n out f e laid = lays_same laid (e ∙ decimal_io k n f)

pub lays_field :
    {p q r s : Pen} (key : List ℕ) (n end : ℕ) → Lays p q key → Lays q r (decimal n) → Lays r s (end ∷ []) →
    Lays p s (field_of key end n)
unfolding field_of
lays_field key n end a b c = lays_more a (lays_more b c)

-- bytes in hexadecimal
hex_append : (xs ys : List ℕ) → hex_of (xs ++ ys) ≡ hex_of xs ++ hex_of ys
unfolding hex_of
hex_append [] ys = refl
hex_append (x ∷ xs) ys = ap (λ z. hex_digit (x / 16) ∷ hex_digit (x % 16) ∷ z) (hex_append xs ys)

pub lays_pair :
    {p q r : Pen} (b : ℕ) → Lays p q (hex_digit (b / 16) ∷ []) → Lays q r (hex_digit (b % 16) ∷ []) →
    Lays p r (hex_of (b ∷ []))
unfolding hex_of
lays_pair b high low = lays_more high low

pub hex_none : (p : Pen) → Lays p p (hex_of [])
unfolding hex_of
hex_none p = lays_none p

pub hex_next :
    {p q r : Pen} (i : ℕ) (x : List ℕ) → i < length x → Lays p q (hex_of (take i x)) →
    Lays q r (hex_of (get_or x i 0 ∷ [])) → Lays p r (hex_of (take (i + 1) x))
hex_next i x h a b =
    lays_same (lays_more a b)
    (sym (hex_append (take i x) (get_or x i 0 ∷ [])) ∙ ap hex_of (sym (rw add-one (take-suc x i 0 h))))

-- all of a text, from the start of a buffer: how long it is, and what the buffer holds where it has room
pub laid_all : {before after : List ℕ} {r : ℕ} {x : List ℕ} → Puts before after 0 r x → Laid before after r x
laid_all {before} p = p before [] (record { count = refl; size = refl; text = λ _. refl })
