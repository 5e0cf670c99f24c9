-- Laws of an operation that is kept. Assumes nothing.
use Prim.Native.Nat.{ℕ, zero-le}
use mathlib.Core.Bool.{Bool, true, false, false≢true}
use mathlib.Core.List.{List, [], ◌∷◌}
use mathlib.Core.Path.{◌≡◌, refl}
use lib.Dec.{ltb, eqb}
use lib.ListN.{length, get_or, drop, replicate}
use lib.Pointwise.{pointwise}
use lib.Seq.{take-length, take-append_seam}
use borrow.Author.Tests.{le-ltb, eq-eqb, eqb-true, ltb-false}
use Rattle.basics.specs.Over.{over}
use Rattle.basics.specs.Counts.{zero_at, zeros_from}
use Rattle.std.specs.Prelude.{if◌then◌else◌}
use Rattle.basics.proofs.Choice.{and_both}
use Rattle.basics.proofs.Every.{every_all}
use Rattle.basics.proofs.Over.{all_zero, over_past}
use Rattle.operation.specs.Limits.{Limits}
use Rattle.operation.specs.Packing.{unpacked, packed, same_bytes}

pub same_is : (s t : List ℕ) → same_bytes s t ≡ true → s ≡ t
unfolding same_bytes
same_is [] [] h = refl
same_is [] (y ∷ t) h = absurd (false≢true h)
same_is (x ∷ s) [] h = absurd (false≢true h)
same_is (x ∷ s) (y ∷ t) h =
    let (a, b) = and_both (eqb x y) (same_bytes s t) h in
    rw (eqb-true x y a, same_is s t b)

-- what `==` tells of two slices
pub same_slices : (s t : List ℕ) → pointwise eqb s t ≡ same_bytes s t
unfolding same_bytes
same_slices [] [] = refl
same_slices [] (y ∷ t) = refl
same_slices (x ∷ s) [] = refl
same_slices (x ∷ s) (y ∷ t) = rw (same_slices s t)

pub len_packed : (l : Limits) (s : List ℕ) → (packed l s).len ≡ length s
unfolding packed
len_packed l s = refl

-- what was packed is unpacked
pub unpacked_packed : (l : Limits) (s : List ℕ) → unpacked (packed l s) ≡ s
unfolding packed
unpacked_packed l s = rw take-length (take-append_seam s (drop (length s) (replicate l.bytes 0)))

-- zeros are zeros from the start
pub zeros_are : (n : ℕ) → zeros_from (replicate n 0) 0 ≡ true
unfolding zeros_from
zeros_are n =
    every_all (zero_at (replicate n 0) 0) (length (replicate n 0)) (λ i h. simp (le-ltb i 0 zero-le, all_zero n i))

-- and zeros follow its bytes
pub packed_zeros : (l : Limits) (s : List ℕ) → zeros_from (packed l s).bytes (length s) ≡ true
unfolding packed zeros_from
packed_zeros l s = every_all (zero_at bytes (length s)) (length bytes) (λ i h. go i (ltb i (length s)) refl)
  where
    bytes : List ℕ
    bytes = over (length s) s (replicate l.bytes 0)

    go : (i : ℕ) (t : Bool) → ltb i (length s) ≡ t → (if t then true else eqb (get_or bytes i 0) 0) ≡ true
    go i true e = refl
    go i false e = eq-eqb (get_or bytes i 0) 0 (over_past s l.bytes i (ltb-false i (length s) e))
