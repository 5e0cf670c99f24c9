-- A test of every element with its place, as a chain of iterators makes it, is the test of every index. Assumes nothing.
use Rattle.std.proofs.Common.{rules, ◌≡◌, refl, sym, ◌∙◌, ap, ℕ, zero, suc, ◌+◌, ◌≤◌, Bool, List, [], ◌∷◌, length, take, map, get_or, ◌&&◌, arith}
use Rattle.std.specs.List.{list_all, enumerate_from}
use Rattle.std.proofs.Math.Seq.{take-length}
use Rattle.std.proofs.lemmas.List.Folds.{list_all_more}
use Rattle.std.proofs.lemmas.List.{length-map}
use Rattle.std.proofs.lemmas.List.FromFn.{length-enumerate_from, get_or-enumerate_from}
use native.Mathlib.Numerals.{add-one}
use Rattle.basics.specs.Every.{every}
use Rattle.basics.proofs.Every.{every_same}
use Rattle.basics.specs.Counts.{is_count, counts}

module _ {A : Type 0} (p : A → Bool) (xs : List A) (d : A) where
  tests_first : (n : ℕ) → n ≤ length xs → list_all p (take n xs) ≡ every n (λ i. p (get_or xs i d))
  unfolding every
  tests_first zero l = search rules
  tests_first (suc n) l =
      (rw add-one at (list_all_more p xs n d (omega arith))) ∙ ap (λ b. b && p (get_or xs n d)) (tests_first n (omega arith))

  pub tests_all : list_all p xs ≡ every (length xs) (λ i. p (get_or xs i d))
  tests_all = ap (list_all p) (sym (take-length xs)) ∙ tests_first (length xs) (omega arith)

pub tests_places :
    {A : Type 0} (t : ℕ → A → Bool) (xs : List A) (d : A) →
    list_all (λ p. t p.0 p.1) (enumerate_from 0 xs) ≡ every (length xs) (λ i. t i (get_or xs i d))
tests_places t xs d =
    tests_all (λ p. t p.0 p.1) (enumerate_from 0 xs) (0, d) ∙
    (ap (λ n. every n (λ i. t (get_or (enumerate_from 0 xs) i (0, d)).0 (get_or (enumerate_from 0 xs) i (0, d)).1)) (length-enumerate_from 0 xs) ∙
    every_same _ (λ i. t i (get_or xs i d)) (length xs)
    (λ i l.
    ap (λ p. t p.0 p.1) (get_or-enumerate_from 0 xs i (0, d) l) ∙
    ap (λ k. t k (get_or xs i d)) (let z : 0 + i ≡ i = omega arith in z)))

-- the same of numbers that the elements stand for
pub tests_values :
    {A : Type 0} (value : A → ℕ) (t : ℕ → ℕ → Bool) (xs : List A) →
    list_all (λ p. t p.0 (value p.1)) (enumerate_from 0 xs) ≡
    every (length (map value xs)) (λ i. t i (get_or (map value xs) i 0))
tests_values {A = A} value t xs = sym (values_same xs 0) ∙ tests_places t (map value xs) 0
  where
    values_same :
        (ys : List A) (k : ℕ) →
        list_all (λ p. t p.0 p.1) (enumerate_from k (map value ys)) ≡
        list_all (λ p. t p.0 (value p.1)) (enumerate_from k ys)
    values_same [] k = refl
    values_same (y ∷ ys) k = ap (λ b. t k (value y) && b) (values_same ys (k + 1))

-- the tests of counts, as the code makes them
pub counts_places :
    {A : Type 0} (value : A → ℕ) (n most : ℕ) (xs : List A) →
    list_all (λ p. is_count n most p.0 (value p.1)) (enumerate_from 0 xs) ≡ counts (map value xs) n most
unfolding counts
counts_places value n most xs = tests_values value (is_count n most) xs

-- a field that is an array of structs has as many elements as what stands for them
pub field_long : {A B : Type 0} (l : List A) (f : A → B) (n : ℕ) → length (map f l) ≡ n → length l ≡ n
field_long l f n e = sym (length-map l f) ∙ e
