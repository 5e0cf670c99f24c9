-- While fewer records were read than there are to be, some machine has room for one more. Assumes nothing.
use Prim.Native.Nat.{ℕ, zero, suc, ◌+◌, ◌≤◌, ◌<◌, zero-le}
use native.Mathlib.Decide.{dec_lt, ℕ_discrete}
use native.Mathlib.Omega.{arith}
use mathlib.Core.Bool.{Bool, true, false}
use mathlib.Core.List.{List, [], ◌∷◌}
use mathlib.Core.Logic.{◌⊎◌, inl, inr}
use mathlib.Core.Path.{◌≡◌, refl}
use lib.Dec.{eqb}
use lib.ListN.{length, get_or}
use borrow.Author.Tests.{ne_eqb, eqb-true}
use Rattle.std.specs.Prelude.{if◌then◌else◌}
use Rattle.basics.specs.Sums.{sum_to}
use Rattle.state.specs.Numbers.{most_machines}
use Rattle.hub.specs.Ring.{total}
use Rattle.hub.specs.History.{Decision, count_of}

-- sums of smaller, equal and added numbers
pub sum_le : (n : ℕ) (f g : ℕ → ℕ) → ((i : ℕ) → i < n → f i ≤ g i) → sum_to n f ≤ sum_to n g
unfolding sum_to
sum_le zero f g h = zero-le
sum_le (suc n) f g h = omega (arith, sum_le n f g (λ i k. h i (omega arith)), h n (omega arith))

pub sum_same : (n : ℕ) (f g : ℕ → ℕ) → ((i : ℕ) → f i ≡ g i) → sum_to n f ≡ sum_to n g
unfolding sum_to
sum_same zero f g h = refl
sum_same (suc n) f g h = rw (sum_same n f g h, h n)

sum_none : (n : ℕ) → sum_to n (λ _. 0) ≡ 0
unfolding sum_to
sum_none zero = refl
sum_none (suc n) = rw (sum_none n)

sum_add : (n : ℕ) (f g : ℕ → ℕ) → sum_to n (λ i. f i + g i) ≡ sum_to n f + sum_to n g
unfolding sum_to
sum_add zero f g = refl
sum_add (suc n) f g = rw (sum_add n f g) (omega arith)

-- one of a kind is counted once
kind_none : (n k : ℕ) → n ≤ k → sum_to n (λ i. if eqb k i then 1 else 0) ≡ 0
unfolding sum_to
kind_none zero k h = refl
kind_none (suc n) k h = rw (kind_none n k (omega arith), ne_eqb k n (λ e. omega (arith, e, h)))

one_kind : (n k : ℕ) → sum_to n (λ i. if eqb k i then 1 else 0) ≤ 1
unfolding sum_to
one_kind zero k = zero-le
one_kind (suc n) k = go (one_kind n k) (eqb k n) refl
  where
    go :
        sum_to n (λ i. if eqb k i then 1 else 0) ≤ 1 → (b : Bool) → eqb k n ≡ b →
        sum_to n (λ i. if eqb k i then 1 else 0) + (if eqb k n then 1 else 0) ≤ 1
    go ih true e = rw (e, kind_none n k (omega (arith, eqb-true k n e))) (omega arith)
    go ih false e = rw e (omega (arith, ih))

-- the entries of all machines are no more than the entries
counted : (n : ℕ) (es : List Decision) → sum_to n (λ m. count_of m es) ≤ length es
unfolding count_of
counted n [] = rw (sum_none n) zero-le
counted n (e ∷ es) =
    rw (sum_add n (λ m. if eqb e.machine m then 1 else 0) (λ m. count_of m es))
    (omega (arith, one_kind n e.machine, counted n es))

-- a machine below n with room, or none
search_room :
    (next : ℕ → ℕ) (es : List Decision) (n : ℕ) →
    ((m : ℕ) × (count_of m es < next m)) ⊎ ((m : ℕ) → m < n → next m ≤ count_of m es)
search_room next es zero = inr (λ m h. absurd (omega (arith, h)))
search_room next es (suc n) = go (search_room next es n) (dec_lt (count_of n es) (next n))
  where
    go :
        ((m : ℕ) × (count_of m es < next m)) ⊎ ((m : ℕ) → m < n → next m ≤ count_of m es) →
        Dec (count_of n es < next n) →
        ((m : ℕ) × (count_of m es < next m)) ⊎ ((m : ℕ) → m < suc n → next m ≤ count_of m es)
    go (inl x) d = inl x
    go (inr f) (yes h) = inl (n, h)
    go (inr f) (no h) = inr (λ m k. last m k (ℕ_discrete m n))
      where
        last : (m : ℕ) → m < suc n → Dec (m ≡ n) → next m ≤ count_of m es
        last m k (yes e) = rw e (omega (arith, h))
        last m k (no e) = f m (omega (arith, k, e))

pub has_room :
    (nexts : List ℕ) (es : List Decision) → length es < total nexts →
    (m : ℕ) × (count_of m es < get_or nexts m 0)
unfolding total
has_room nexts es h = go (search_room (λ m. get_or nexts m 0) es most_machines)
  where
    go :
        ((m : ℕ) × (count_of m es < get_or nexts m 0)) ⊎ ((m : ℕ) → m < most_machines → get_or nexts m 0 ≤ count_of m es) →
        (m : ℕ) × (count_of m es < get_or nexts m 0)
    go (inl x) = x
    go (inr f) =
        let a = sum_le most_machines (λ m. get_or nexts m 0) (λ m. count_of m es) f in
        absurd (omega (arith, a, counted most_machines es, h))
