-- A fresh hub is in shape and has decided nothing; the all-zero one is not in shape. Assumes nothing.
use Prim.Native.Nat.{ℕ, zero, suc}
use native.Mathlib.Nat.{not-suc-le-zero}
use native.Mathlib.Omega.{arith}
use mathlib.Core.Bool.{true, false}
use mathlib.Core.List.{List, []}
use mathlib.Core.Path.{◌≡◌, refl, ◌∙◌}
use lib.ListN.{length, get_or, replicate, length-replicate, get_or-replicate}
use Rattle.basics.specs.Counts.{counts}
use Rattle.basics.specs.Sums.{sum_to}
use Rattle.basics.proofs.Every.{every_all}
use Rattle.basics.proofs.Over.{all_zero}
use Rattle.operation.specs.Limits.{Limits}
use Rattle.effect.specs.Running.{filled}
use Rattle.effect.specs.Replaying.{replay}
use Rattle.state.specs.Numbers.{most_machines, most_issued}
use Rattle.state.specs.Sizes.{sizes_good}
use Rattle.state.proofs.KeptCounts.{counts_filled, counts_none}
use Rattle.state.proofs.Holding.{empty_blank}
use Rattle.hub.specs.Ring.{most_kept, total, empty_record, no_record}
use Rattle.hub.specs.Shape.{record_blank, place_good, numbered, ring_good, numbers_good, shaped}
use Rattle.hub.specs.Starting.{started, zero_hub}
use Rattle.hub.specs.History.{HasDecided, count_of}
use Rattle.hub.proofs.GoodShape.{place_past}

-- none is decided
sum_zeros : (k n : ℕ) → sum_to k (λ m. get_or (replicate n 0) m 0) ≡ 0
unfolding sum_to
sum_zeros zero n = refl
sum_zeros (suc k) n = rw (sum_zeros k n, all_zero n k)

pub none_decided : total (replicate most_machines 0) ≡ 0
unfolding total
none_decided = sum_zeros most_machines most_machines

pub blank_record : (l : Limits) → record_blank (empty_record l) ≡ true
unfolding record_blank
blank_record l = empty_blank l

fresh_ring :
    (l : Limits) (machines width n : ℕ) → n ≡ 0 → ring_good l machines width n (replicate most_kept (empty_record l))
    ≡ true
unfolding ring_good
fresh_ring l machines width n z =
    every_all (λ i. place_good l machines width n i (get_or (replicate most_kept (empty_record l)) i no_record)) most_kept
    (λ i lt. rw (get_or-replicate most_kept i (empty_record l) no_record lt)
    (place_past l machines width (empty_record l) n i (omega (arith, z)) ∙ blank_record l))

fresh_numbers : (l : Limits) → numbers_good (replicate most_machines 0) (replicate most_kept (empty_record l)) ≡ true
unfolding numbers_good numbered
fresh_numbers l = rw none_decided

pub fresh_shaped :
    (l : Limits) (machines : ℕ) (first : List ℕ) → sizes_good l machines (length first) ≡ true →
    counts first (length first) l.held ≡ true →
    shaped l (started l machines (length first) (filled l first)) ≡ true
unfolding shaped
fresh_shaped l machines first s k =
    simp (
      s,
      counts_filled l (length first) first refl k,
      counts_none most_machines machines most_issued,
      fresh_ring l machines (length first) (total (replicate most_machines 0)) none_decided,
      fresh_numbers l,
    )

pub zero_not_shaped : (l : Limits) → shaped l (zero_hub l) ≡ false
unfolding shaped sizes_good
zero_not_shaped l = refl

-- and the history of a fresh hub is empty
pub fresh_history : (l : Limits) (machines width : ℕ) (cells : List ℕ) → HasDecided l cells [] (started l machines
    width cells)
unfolding replay count_of
fresh_history l machines width cells = record {
  places = length-replicate most_kept (empty_record l);
  machines = length-replicate {A = ℕ} most_machines 0;
  count = none_decided;
  cells = refl;
  next = λ m h. all_zero most_machines m;
  kept = λ n h k. absurd (not-suc-le-zero h);
}
