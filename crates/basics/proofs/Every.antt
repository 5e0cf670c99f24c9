-- Laws of a test of every index. Assumes nothing.
use Prim.Native.Nat.{ℕ, zero, suc, ◌<◌}
use native.Mathlib.Nat.{le_of_suc-le-suc, not-suc-le-zero, eq-or-lt_of_le}
use native.Mathlib.Omega.{arith}
use mathlib.Core.Bool.{Bool, true}
use mathlib.Core.Logic.{⊎_elim}
use mathlib.Core.Path.{◌≡◌, refl}
use Rattle.basics.specs.Every.{every}
use Rattle.basics.proofs.Choice.{and_both}

module _ (p : ℕ → Bool) where
  pub every_none : every 0 p ≡ true
  unfolding every
  every_none = refl

  -- what was tested of every index holds of each
  pub every_at : (n i : ℕ) → every n p ≡ true → i < n → p i ≡ true
  unfolding every
  every_at zero i h l = absurd (not-suc-le-zero l)
  every_at (suc n) i h l =
      ⊎_elim
      (λ q. rw q (and_both (every n p) (p n) h).1)
      (λ lt. every_at n i (and_both (every n p) (p n) h).0 lt)
      (eq-or-lt_of_le (le_of_suc-le-suc l))

  -- and what holds of each holds of every
  pub every_all : (n : ℕ) → ((i : ℕ) → i < n → p i ≡ true) → every n p ≡ true
  unfolding every
  every_all zero h = refl
  every_all (suc n) h = rw (every_all n (λ i l. h i (omega arith)), h n (omega arith))

-- tests that agree below n agree of every index below it
pub every_same :
    (p q : ℕ → Bool) (n : ℕ) → ((i : ℕ) → i < n → p i ≡ q i) → every n p ≡ every n q
unfolding every
every_same p q zero h = refl
every_same p q (suc n) h = rw (every_same p q n (λ i l. h i (omega arith)), h n (omega arith))
