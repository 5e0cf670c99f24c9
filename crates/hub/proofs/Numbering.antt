-- Laws of the numbers of kept records. Assumes nothing.
use Prim.Native.Nat.{ℕ, zero, suc, ◌+◌, ◌-◌, ◌≤◌, ◌<◌}
use native.Mathlib.Nat.{not-suc-le-zero}
use native.Mathlib.Omega.{arith}
use mathlib.Core.Bool.{Bool, true, false, ◌&&◌}
use mathlib.Core.List.{List}
use mathlib.Core.Path.{◌≡◌, refl, sym, ◌∙◌}
use lib.Dec.{eqb}
use lib.ListN.{length, get_or, set, get_or-eq_default}
use borrow.Author.Tests.{eq-eqb, ne_eqb}
use Rattle.basics.proofs.Choice.{and_both}
use Rattle.hub.specs.Ring.{total, kept_count, record_at}
use Rattle.hub.specs.Shape.{numbered, numbers_good}
use Rattle.hub.specs.declared.Record.{Record}

-- whether a record is numbered one below what is left of its machine's numbers, and what is left then
abbrev pub follows : List ℕ → Record → Bool
follows left r = eqb (get_or left r.machine 0) (r.number + 1)

abbrev pub after : List ℕ → Record → List ℕ
after left r = set left r.machine r.number

module _ (records : List Record) where
  pub step :
      (k n : ℕ) (left : List ℕ) → 0 < k →
      numbered records k n left ≡
      follows left (record_at records (n - 1)) &&
      numbered records (k - 1) (n - 1) (after left (record_at records (n - 1)))
  unfolding numbered
  step zero n left h = absurd (not-suc-le-zero h)
  step (suc k) n left h = let e : suc k - 1 ≡ k = omega arith in rw e

  pub numbered_stops :
      (k n : ℕ) (left : List ℕ) (r : Record) → 0 < k → r ≡ record_at records (n - 1) → follows left r ≡ false →
      numbered records k n left ≡ false
  numbered_stops k n left r h e f = step k n left h ∙ rw (sym e, f)

  pub numbered_more :
      (k n : ℕ) (left : List ℕ) (r : Record) (m : ℕ) → 0 < k → r ≡ record_at records (n - 1) → m ≡ r.machine →
      follows left r ≡ true →
      numbered records (k - 1) (n - 1) (set left m r.number) ≡ numbered records k n left
  numbered_more k n left r m h e f g = rw f (sym (step k n left h ∙ rw (sym e, g)))

  pub numbered_end : (k n : ℕ) (left : List ℕ) → k ≤ 0 → true ≡ numbered records k n left
  unfolding numbered
  numbered_end k n left h = let e : k ≡ 0 = omega arith in rw e

  pub numbered_start :
      (next : List ℕ) (k n : ℕ) → n ≡ total next → k ≡ kept_count n →
      numbered records k n next ≡ numbers_good next records
  unfolding numbers_good
  numbered_start next k n e f = rw (f, e)

  -- over fewer records
  pub fewer : (k d n : ℕ) (left : List ℕ) → numbered records (k + d) n left ≡ true → numbered records k n left ≡ true
  unfolding numbered
  fewer zero d n left h = refl
  fewer (suc k) d n left h =
      let a : suc k + d ≡ suc (k + d) = omega arith in
      let r = record_at records (n - 1) in
      let b = and_both (follows left r) (numbered records (k + d) (n - 1) (after left r)) (rw a at h) in
      rw b.0 (fewer k d (n - 1) (after left r) b.1)

-- where the records are the same
pub alike :
    (rs ss : List Record) (k n : ℕ) (left : List ℕ) → k ≤ n →
    ((j : ℕ) → j < n → n ≤ j + k → record_at ss j ≡ record_at rs j) → numbered ss k n left ≡ numbered rs k n left
unfolding numbered
alike rs ss zero n left h s = refl
alike rs ss (suc k) n left h s =
    rw (
      s (n - 1) (omega arith) (omega arith),
      alike rs ss k (n - 1) (after left (record_at rs (n - 1))) (omega arith)
          (λ j a b. s j (omega arith) (omega arith)),
    )

-- a record of machine m
module _ (left : List ℕ) (r : Record) (m : ℕ) (e : m ≡ r.machine) where
  pub follows_far : length left ≤ m → follows left r ≡ false
  follows_far h =
      rw (sym e, get_or-eq_default left 0 h) (ne_eqb 0 (r.number + 1) (λ q. omega (arith, q)))

  pub follows_not : (get_or left m 0 ≡ r.number + 1 → ⊥) → follows left r ≡ false
  follows_not h = rw (sym e) (ne_eqb _ _ h)

  pub follows_so : get_or left m 0 ≡ r.number + 1 → follows left r ≡ true
  follows_so h = rw (sym e) (eq-eqb _ _ h)
