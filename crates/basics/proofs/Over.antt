-- Laws of elements over the start of a buffer. Assumes nothing.
use Prim.Native.Nat.{ℕ, zero, suc, ◌+◌, ◌-◌, ◌≤◌, ◌<◌}
use native.Mathlib.Omega.{arith}
use mathlib.Core.Path.{◌≡◌, refl, ◌∙◌}
use mathlib.Core.List.{List}
use lib.ListN.{length, get_or, drop, replicate, length-append, length-drop, get_or-append}
use lib.Seq.{length-take-le, take-length, get_or-drop, get_or-append-add}
use Rattle.basics.specs.Over.{over}

module _ {A : Type 0} (s d : List A) where
  pub over_length : (n : ℕ) → n ≤ length s → n ≤ length d → length (over n s d) ≡ length d
  over_length n hs hd = simp (length-append, length-take-le n s hs, length-drop) (omega arith)

-- zeros are 0 everywhere
pub all_zero : (n i : ℕ) → ◌≡◌ {A = ℕ} (get_or (replicate n 0) i 0) 0
all_zero zero i = refl
all_zero (suc n) zero = refl
all_zero (suc n) (suc i) = all_zero n i

-- a whole list over zeros: its elements, and then 0
module _ (s : List ℕ) (n : ℕ) where
  pub over_front : (i : ℕ) → i < length s → get_or (over (length s) s (replicate n 0)) i 0 ≡ get_or s i 0
  over_front i h = rw take-length (get_or-append s (drop (length s) (replicate n 0)) 0 i h)

  pub over_past : (i : ℕ) → length s ≤ i → get_or (over (length s) s (replicate n 0)) i 0 ≡ 0
  over_past i h =
      let k : length s + (i - length s) ≡ i = omega arith in
      let e = get_or-append-add s (drop (length s) (replicate n 0)) (i - length s) 0 in
      rw take-length (rw k at e) ∙
      (get_or-drop (length s) (replicate n 0) (i - length s) 0 ∙ all_zero n (length s + (i - length s)))
