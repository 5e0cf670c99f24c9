-- Laws of the sum of all next. Assumes nothing.
use Prim.Native.Nat.{ℕ, zero, suc, ◌+◌, ◌≤◌, ◌<◌}
use native.Mathlib.Nat.{not-suc-le-zero, eq-or-lt_of_le, le_of_suc-le-suc}
use native.Mathlib.Omega.{arith}
use mathlib.Core.Bool.{true}
use mathlib.Core.List.{List}
use mathlib.Core.Logic.{⊎_elim}
use mathlib.Core.Path.{◌≡◌, refl, sym, ap, ◌∙◌}
use lib.ListN.{length, get_or, set, take}
use lib.Seq.{take_all, get_or-set_same, get_or-set_other}
use native.Mathlib.Numerals.{add-one}
use Rattle.std.specs.Prelude.{sum}
use Rattle.std.proofs.lemmas.List.Sums.{sum_by_more}
use Rattle.basics.specs.Counts.{counts}
use Rattle.basics.specs.Sums.{sum_to}
use Rattle.basics.proofs.Counts.{count_most}
use Rattle.basics.proofs.Sums.{sum_most}
use Rattle.state.specs.Numbers.{most_machines, most_issued, most_decided}
use Rattle.hub.specs.Ring.{total}

-- the sum of the elements is that over every index
sum_first : (xs : List ℕ) (k : ℕ) → k ≤ length xs → sum (take k xs) ≡ sum_to k (λ m. get_or xs m 0)
unfolding sum_to
sum_first xs zero h = refl
sum_first xs (suc k) h =
    let e = rw add-one at (sum_by_more (λ x. x) xs k 0 (omega arith)) in
    e ∙ ap (λ n. n + get_or xs k 0) (sum_first xs k (omega arith))

pub sum_total : (next : List ℕ) → length next ≡ most_machines → sum next ≡ total next
unfolding total
sum_total next sized =
    ap sum (sym (take_all most_machines next (omega (arith, sized)))) ∙ sum_first next most_machines (omega (arith, sized))

pub total_most :
    (next : List ℕ) (machines : ℕ) → length next ≡ most_machines → counts next machines most_issued ≡ true →
    total next ≤ most_decided
unfolding total
total_most next machines sized h =
    sum_most (λ m. get_or next m 0) most_issued most_machines
    (λ i lt. count_most next machines most_issued h i (omega (arith, sized)))

-- the sum of a list in which one number has grown by one
sum_past :
    (xs : List ℕ) (m v k : ℕ) → k ≤ m → sum_to k (λ i. get_or (set xs m v) i 0) ≡ sum_to k (λ i. get_or xs i 0)
unfolding sum_to
sum_past xs m v zero h = refl
sum_past xs m v (suc k) h =
    rw (sum_past xs m v k (omega arith), get_or-set_other xs m k v 0 (λ e. omega (arith, e)))

sum_grows :
    (xs : List ℕ) (m k : ℕ) → m < k → m < length xs →
    sum_to k (λ i. get_or (set xs m (get_or xs m 0 + 1)) i 0) ≡ sum_to k (λ i. get_or xs i 0) + 1
unfolding sum_to
sum_grows xs m zero h there = absurd (not-suc-le-zero h)
sum_grows xs m (suc k) h there =
    ⊎_elim
    (λ e. rw (
      ← e,
      sum_past xs m (get_or xs m 0 + 1) m (omega arith),
      get_or-set_same xs m (get_or xs m 0 + 1) 0 there,
    )
    (omega arith))
    (λ lt. rw (
      sum_grows xs m k lt there,
      get_or-set_other xs m k (get_or xs m 0 + 1) 0 (λ e. omega (arith, e)),
    )
    (omega arith))
    (eq-or-lt_of_le (le_of_suc-le-suc h))

pub total_grows :
    (next : List ℕ) (m : ℕ) → length next ≡ most_machines → m < most_machines →
    total (set next m (get_or next m 0 + 1)) ≡ total next + 1
unfolding total
total_grows next m sized h = sum_grows next m most_machines h (omega (arith, sized))
