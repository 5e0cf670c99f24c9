-- Laws of sums. Assumes nothing.
use Prim.Native.Nat.{ℕ, zero, suc, ◌*◌, ◌≤◌, ◌<◌, zero-le}
use native.Mathlib.Omega.{arith}
use Rattle.basics.specs.Sums.{sum_to}

module _ (f : ℕ → ℕ) where
  -- n numbers, none above `most`
  pub sum_most : (most n : ℕ) → ((i : ℕ) → i < n → f i ≤ most) → sum_to n f ≤ n * most
  unfolding sum_to
  sum_most most zero h = zero-le
  sum_most most (suc n) h = omega (arith, sum_most most n (λ i l. h i (omega arith)), h n (omega arith))
