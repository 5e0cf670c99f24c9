-- The sum over every index below a number. Assumes nothing: this is a definition.
use Rattle.std.specs.Prelude.{ℕ, zero, suc, ◌+◌}

unfoldable pub sum_to : ℕ → (ℕ → ℕ) → ℕ
sum_to zero f = 0
sum_to (suc n) f = sum_to n f + f n
