-- Laws of counts that calls keep. Assumes nothing.
use Prim.Native.Nat.{ℕ, ◌≤◌, ◌<◌, zero-le}
use native.Mathlib.Omega.{arith}
use mathlib.Core.Bool.{Bool, true, false}
use mathlib.Core.List.{List}
use mathlib.Core.Path.{◌≡◌, refl, ◌∙◌}
use lib.Dec.{ltb, leb, eqb}
use lib.ListN.{length, get_or, set, replicate, length-set, get_or-eq_default}
use lib.Seq.{get_or-set_same, get_or-set_other}
use borrow.Author.Tests.{lt-ltb, le-ltb, le-leb, eq-eqb, ltb-true, ltb-false, eqb-true, eqb-false}
use Rattle.std.specs.Prelude.{if◌then◌else◌}
use Rattle.basics.specs.Counts.{count_at, counts}
use Rattle.basics.specs.Over.{over}
use Rattle.basics.proofs.Every.{every_at, every_all}
use Rattle.basics.proofs.Over.{all_zero, over_front, over_past}
use Rattle.basics.proofs.Counts.{count_most, count_zero}
use Rattle.operation.specs.Limits.{Limits}
use Rattle.effect.specs.Running.{cell, filled}
use Rattle.effect.proofs.Keeping.{Kept}

-- a cell of counts is at most the limit, wherever it is
pub cell_most :
    (l : Limits) (width : ℕ) (c : List ℕ) → counts c width l.held ≡ true → (i : ℕ) → cell c i ≤ l.held
cell_most l width c h i = go (ltb i (length c)) refl
  where
    go : (t : Bool) → ltb i (length c) ≡ t → cell c i ≤ l.held
    go true e = count_most c width l.held h i (ltb-true i (length c) e)
    go false e = rw (get_or-eq_default c 0 (ltb-false i (length c) e)) zero-le

-- counts that are kept are counts
pub counts_kept :
    (l : Limits) (width : ℕ) (c d : List ℕ) → Kept l width c d → counts c width l.held ≡ true →
    counts d width l.held ≡ true
unfolding counts
counts_kept l width c d k h = every_all (count_at d width l.held) (length d) (λ i lt. go i lt (ltb i width) refl)
  where
    go :
        (i : ℕ) → i < length d → (t : Bool) → ltb i width ≡ t →
        (if t then leb (cell d i) l.held else eqb (cell d i) 0) ≡ true
    go i lt true e = le-leb (cell d i) l.held (k.most (cell_most l width c h) i)
    go i lt false e =
        eq-eqb (cell d i) 0
        (k.past i (ltb-false i width e) ∙ count_zero c width l.held h i (omega (arith, k.count))
        (ltb-false i width e))

-- counts with a store below their number, of no more than the limit
pub counts_set :
    (xs : List ℕ) (n most k v : ℕ) → k < n → counts xs n most ≡ true → v ≤ most → counts (set xs k v) n most ≡ true
unfolding counts
counts_set xs n most k v lt h small =
    every_all (count_at (set xs k v) n most) (length (set xs k v)) (λ i b. go i (rw length-set at b) (eqb i k) refl)
  where
    go : (i : ℕ) → i < length xs → (t : Bool) → eqb i k ≡ t → count_at (set xs k v) n most i ≡ true
    go i b true e =
        let f = eqb-true i k e in
        let s : get_or (set xs k v) i 0 ≡ v = rw f (get_or-set_same xs k v 0 (omega arith)) in
        simp (lt-ltb i n (omega arith), s, le-leb v most small)
    go i b false e =
        rw (get_or-set_other xs k i v 0 (eqb-false i k e)) (every_at (count_at xs n most) (length xs) i h b)

-- counts, and zeros after them, are counts
pub counts_over :
    (n most width : ℕ) (first : List ℕ) → length first ≡ width → counts first (length first) most ≡ true →
    counts (over (length first) first (replicate n 0)) width most ≡ true
unfolding counts
counts_over n most width first w h =
    every_all (count_at cells width most) (length cells) (λ i b. go i (ltb i (length first)) refl)
  where
    cells : List ℕ
    cells = over (length first) first (replicate n 0)

    go : (i : ℕ) (t : Bool) → ltb i (length first) ≡ t → count_at cells width most i ≡ true
    go i true e =
        let b = ltb-true i (length first) e in
        let m = count_most first (length first) most h i b in
        simp (lt-ltb i width (omega arith), over_front first n i b, le-leb (get_or first i 0) most m)
    go i false e =
        let b = ltb-false i (length first) e in
        simp (le-ltb i width (omega arith), over_past first n i b)

pub counts_filled :
    (l : Limits) (width : ℕ) (first : List ℕ) → length first ≡ width → counts first (length first)
    l.held ≡ true →
    counts (filled l first) width l.held ≡ true
unfolding filled
counts_filled l width first w h = counts_over l.cells l.held width first w h

pub counts_none : (k n most : ℕ) → counts (replicate k 0) n most ≡ true
unfolding counts
counts_none k n most =
    every_all (count_at (replicate k 0) n most) (length (replicate k 0)) (λ i b. go i (ltb i n) refl)
  where
    go :
        (i : ℕ) (t : Bool) → ltb i n ≡ t →
        (if t then leb (get_or (replicate k 0) i 0) most else eqb (get_or (replicate k 0) i 0) 0) ≡ true
    go i true e = simp (all_zero k i, le-leb 0 most zero-le)
    go i false e = simp (all_zero k i)
