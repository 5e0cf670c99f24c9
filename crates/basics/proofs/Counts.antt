-- What counts and zeros say of each place, and what each place has to show. Assumes nothing.
use Rattle.std.proofs.Common.{◌≡◌, refl, ap, ◌∙◌, ℕ, ◌≤◌, ◌<◌, arith, Bool, true, false, List, length, map, get_or, leb, eqb, Fits, w8, slice_index_or}
use Rattle.std.specs.Prelude.{if◌then◌else◌, ltb}
use Rattle.std.proofs.lemmas.List.{map-id}
use borrow.Author.Tests.{le-ltb, le-leb, leb-true, eqb-true}
use Rattle.basics.specs.Every.{every}
use Rattle.basics.specs.Counts.{count_at, counts, zero_at, zeros_from}
use Rattle.basics.proofs.Every.{every_at, every_same}

module _ (xs : List ℕ) (n most : ℕ) (all : counts xs n most ≡ true) where
  -- a count is at most the limit
  pub count_most : (i : ℕ) → i < length xs → get_or xs i 0 ≤ most
  unfolding counts
  count_most i l = go (ltb i n) (every_at (count_at xs n most) (length xs) i all l)
    where
      go : (t : Bool) → (if t then leb (get_or xs i 0) most else eqb (get_or xs i 0) 0) ≡ true → get_or xs i 0 ≤ most
      go true h = leb-true _ _ h
      go false h = let z : get_or xs i 0 ≡ 0 = eqb-true _ _ h in omega arith

  -- and 0 past the n-th
  pub count_zero : (i : ℕ) → i < length xs → n ≤ i → get_or xs i 0 ≡ 0
  unfolding counts
  count_zero i l h = eqb-true _ _ (rw (le-ltb i n h) at (every_at (count_at xs n most) (length xs) i all l))

-- of bytes, that each is a count of at most 255 says only that the later ones are 0
pub bytes_zeros :
    (xs : List ℕ) (n : ℕ) → ((i : ℕ) → Fits w8 (slice_index_or xs i 0)) →
    counts (map (λ x. x) xs) n 255 ≡ zeros_from xs n
unfolding counts zeros_from
bytes_zeros xs n fits =
    ap (λ ys. every (length ys) (count_at ys n 255)) (map-id xs) ∙
    every_same (count_at xs n 255) (zero_at xs n) (length xs) (λ i l. go i (ltb i n))
  where
    go :
        (i : ℕ) (t : Bool) →
        (if t then leb (get_or xs i 0) 255 else eqb (get_or xs i 0) 0) ≡
        (if t then true else eqb (get_or xs i 0) 0)
    go i true = let h = fits i in let le : get_or xs i 0 ≤ 255 = omega arith in le-leb _ _ le
    go i false = refl
