-- Laws of decimal numbers. Assumes nothing.
use Prim.Native.Nat.{ℕ, zero, suc, ◌+◌, ◌*◌, ◌/◌, ◌%◌, ◌^◌, ◌≤◌, ◌<◌}
use mathlib.Core.Bool.{Bool, true, false}
use mathlib.Core.Path.{◌≡◌, refl, ◌∙◌, ap, ap₂}
use mathlib.Core.List.{List, [], ◌∷◌, ◌++◌}
use native.Mathlib.Omega.{arith}
use lib.Dec.{ltb}
use Rattle.std.specs.Prelude.{if◌then◌else◌}
use lib.ListN.{length, length-append}
use borrow.Author.Tests.{ltb-true, ltb-false, lt-ltb, le-ltb}
use Rattle.lines.specs.Decimals.{digits_in, decimal}
use Rattle.lines.specs.Same.{NoLF}

-- more places change nothing
enough : (j k n : ℕ) → n < j → n < k → digits_in j n ≡ digits_in k n
unfolding digits_in
enough zero k n p q = absurd (omega arith)
enough (suc j) zero n p q = absurd (omega arith)
enough (suc j) (suc k) n p q = go (λ r s. enough j k (n / 10) r s) (ltb n 10) refl
  where
    go : (n / 10 < j → n / 10 < k → digits_in j (n / 10) ≡ digits_in k (n / 10)) → (b : Bool) → ltb n 10 ≡ b
        → (if ltb n 10 then (48 + n) ∷ [] else digits_in j (n / 10) ++ ((48 + n % 10) ∷ []))
        ≡ (if ltb n 10 then (48 + n) ∷ [] else digits_in k (n / 10) ++ ((48 + n % 10) ∷ []))
    go ih true e = rw e
    go ih false e =
        let h : 10 ≤ n = ltb-false n 10 e in
        rw e (ap (λ (l : List ℕ). l ++ ((48 + n % 10) ∷ [])) (ih (omega arith) (omega arith)))

pub decimal_digit : (d : ℕ) → d < 10 → decimal d ≡ (48 + d) ∷ []
unfolding decimal digits_in
decimal_digit d h = rw (lt-ltb d 10 h)

pub decimal_more : (n : ℕ) → 10 ≤ n → decimal n ≡ decimal (n / 10) ++ ((48 + n % 10) ∷ [])
unfolding decimal digits_in
decimal_more n h =
    rw (le-ltb n 10 h) (ap (λ (l : List ℕ). l ++ ((48 + n % 10) ∷ [])) (enough n (suc (n / 10)) (n / 10) (omega
    arith) (omega arith)))

pub decimal_step : (v d : ℕ) → 0 < v → d < 10 → decimal (v * 10 + d) ≡ decimal v ++ ((48 + d) ∷ [])
decimal_step v d p q =
    let e : (v * 10 + d) / 10 ≡ v = omega arith in
    let f : (v * 10 + d) % 10 ≡ d = omega arith in
    decimal_more (v * 10 + d) (omega arith) ∙ ap₂ (λ (a b : ℕ). decimal a ++ ((48 + b) ∷ [])) e f

pub NoLF-append : (a b : List ℕ) → NoLF a → NoLF b → NoLF (a ++ b)
unfolding NoLF
NoLF-append [] b p q = q
NoLF-append (x ∷ a) b p q = (p.0, NoLF-append a b p.1 q)

NoLF-digits : (k n : ℕ) → NoLF (digits_in k n)
unfolding digits_in NoLF
NoLF-digits zero n = tt
NoLF-digits (suc k) n = go (NoLF-digits k (n / 10)) (ltb n 10) refl
  where
    go : NoLF (digits_in k (n / 10)) → (b : Bool) → ltb n 10 ≡ b → NoLF ((if ltb n 10 then (48 + n) ∷ [] else
        digits_in k (n / 10) ++ ((48 + n % 10) ∷ [])))
    go ih true e = rw e ((omega arith), tt)
    go ih false e = rw e (NoLF-append (digits_in k (n / 10)) ((48 + n % 10) ∷ []) ih ((omega arith), tt))

pub NoLF-decimal : (n : ℕ) → NoLF (decimal n)
unfolding decimal
NoLF-decimal n = NoLF-digits (suc n) n

-- a number below 10 ^ k has at most k digits
pub decimal_short : (k n : ℕ) → n < 10 ^ suc k → length (decimal n) ≤ suc k
decimal_short zero n h = rw (decimal_digit n h) (omega arith)
decimal_short (suc k) n h = go (λ l. decimal_short k (n / 10) l) (ltb n 10) refl
  where
    go : (n / 10 < 10 ^ suc k → length (decimal (n / 10)) ≤ suc k) → (b : Bool) → ltb n 10 ≡ b → length (decimal n)
        ≤ suc (suc k)
    go ih true e = rw (decimal_digit n (ltb-true n 10 e)) (omega arith)
    go ih false e =
        let i = ih (omega arith) in
        rw (decimal_more n (ltb-false n 10 e), length-append) (omega arith)
