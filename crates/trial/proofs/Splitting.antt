-- Laws of the lines of a text. Assumes nothing.
use Prim.Native.Nat.{ℕ, zero, suc, ◌-◌, ◌≤◌, ◌<◌, min}
use native.Mathlib.Numerals.{add-one}
use native.Mathlib.Omega.{arith}
use mathlib.Core.Bool.{Bool, true, false}
use Rattle.std.specs.Prelude.{◌==◌, if◌then◌else◌}
use mathlib.Core.List.{List, [], ◌∷◌}
use mathlib.Core.Path.{◌≡◌, refl, sym, ap, ◌∙◌}
use lib.ListN.{length, take, drop, get_or, drop_of_length-le}
use borrow.Author.Tests.{eq-eqb, ne_eqb}
use Rattle.std.proofs.lemmas.List.{drop-drop, length-drop, take_all}
use Rattle.std.proofs.Math.Nat.{min-eq_right}
use Rattle.trial.specs.Split.{lines_of, longer}

-- a text of no bytes has no line
pub nothing : (s : List ℕ) → length s ≡ 0 → lines_of s ≡ []
unfolding lines_of
nothing [] h = refl
nothing (b ∷ t) h = absurd (omega arith)

-- a text is its first line and those after its end
pub first_line :
    (s : List ℕ) (e : ℕ) → 0 < length s → e ≤ length s → ((k : ℕ) → k < e → get_or s k 0 ≡ 10 → ⊥) →
    (e < length s → get_or s e 0 ≡ 10) → lines_of s ≡ take e s ∷ lines_of (drop (suc e) s)
unfolding lines_of longer
first_line [] e some within before found = absurd (omega arith)
first_line (b ∷ t) zero some within before found = rw (eq-eqb b 10 (found (omega arith)))
first_line (b ∷ []) (suc zero) some within before found = rw (ne_eqb b 10 (before 0 (omega arith)))
first_line (b ∷ []) (suc (suc e)) some within before found = absurd (omega arith)
first_line (b ∷ (c ∷ t)) (suc e) some within before found =
    rw (ne_eqb b 10 (before 0 (omega arith)))
    (ap (longer b) (first_line (c ∷ t) e (omega arith) (omega arith) (λ k h. before (suc k) (omega arith)) (λ h. found (omega arith))))

-- what is left past an end of line, where there is one
pub past_end :
    (s r : List ℕ) (e m : ℕ) → r ≡ drop e s → m ≡ min (length r) 1 → take (length r - m) (drop m r) ≡ drop (suc e) s
past_end s [] e m d q =
    let over : length s ≤ suc e = omega (arith, length-drop e s, ap (length {A = ℕ}) d) in
    rw q (sym (drop_of_length-le s over))
past_end s (b ∷ t) e m d q =
    let one : m ≡ 1 = q ∙ min-eq_right (omega arith) in
    rw one (take_all (length (b ∷ t) - 1) t (omega arith) ∙ (ap (drop 1) d ∙ (drop-drop 1 e s ∙ rw add-one)))

-- the first of the lines that are left, and the others
pub next_line :
    (s line r : List ℕ) (e m : ℕ) → line ≡ take e s → r ≡ drop e s → m ≡ min (length r) 1 → 0 < length s → e ≤ length s →
    ((k : ℕ) → k < e → get_or s k 0 ≡ 10 → ⊥) → (e < length s → get_or s e 0 ≡ 10) →
    lines_of s ≡ line ∷ lines_of (take (length r - m) (drop m r))
next_line s line r e m f d q some within before found =
    rw (f, past_end s r e m d q) (first_line s e some within before found)

-- no more lines than bytes
pub few_lines : (s : List ℕ) → length (lines_of s) ≤ length s
unfolding lines_of longer
few_lines [] = omega arith
few_lines (b ∷ bs) = go (lines_of bs) (few_lines bs) (b == 10)
  where
    go : (ls : List (List ℕ)) → length ls ≤ length bs → (x : Bool) → length (if x then [] ∷ ls else longer b ls) ≤ suc (length bs)
    go ls h true = omega arith
    go [] h false = omega arith
    go (l ∷ ls) h false = omega arith
