-- The hub that a whole text makes has arrays of their lengths, and bytes. Assumes nothing.
use Prim.Native.Nat.{ℕ, zero, suc, ◌≤◌, ◌<◌}
use native.Mathlib.Decide.{dec_lt}
use native.Mathlib.Omega.{arith}
use mathlib.Core.List.{List, [], ◌∷◌}
use mathlib.Core.Path.{◌≡◌, sym, subst, ◌∙◌}
use lib.ListN.{length, get_or, replicate, length-replicate}
use Rattle.basics.specs.Over.{over}
use Rattle.basics.proofs.Over.{over_front, over_past, over_length, all_zero}
use Rattle.operation.specs.Limits.{Limits}
use Rattle.operation.specs.Packing.{packed, empty}
use Rattle.operation.specs.declared.Packed.{Packed}
use Rattle.operation.proofs.WellFormed.{formed, op_of}
use Rattle.effect.specs.Running.{filled}
use Rattle.state.specs.Numbers.{most_machines}
use Rattle.lines.proofs.Hexes.{Bytes}
use Rattle.hub.specs.Ring.{most_kept, total, no_record, empty_record}
use Rattle.hub.specs.History.{Decision, no_decision}
use Rattle.hub.specs.declared.Record.{Record}
use Rattle.hubtext.specs.Values.{width_in, cells_in, nexts_in}
use Rattle.hubtext.specs.Reading.{made}
use Rattle.hubtext.specs.Real.{Real}
use Rattle.hubtext.proofs.Sofar.{Entry}
use Rattle.hubtext.proofs.Complete.{Whole}
use Rattle.hubtext.proofs.PlacedRecords.{placed_long}
use Rattle.hubtext.proofs.MadeHubs.{nexts_long, cells_long, place_full, place_empty}

-- a list with zeros after it
padded_long : (xs : List ℕ) (n : ℕ) → length xs ≤ n → length (over (length xs) xs (replicate n 0)) ≡ n
padded_long xs n h =
    over_length xs (replicate n 0) (length xs) (omega arith) (rw (length-replicate {A = ℕ} n 0) h) ∙
    length-replicate {A = ℕ} n 0

bytes_at : (xs : List ℕ) → Bytes xs → (j : ℕ) → get_or xs j 0 < 256
unfolding Bytes
bytes_at [] h j = omega arith
bytes_at (x ∷ xs) h zero = h.0
bytes_at (x ∷ xs) h (suc j) = bytes_at xs h.1 j

-- an operation that is kept
module _ (l : Limits) (op : List ℕ) where
  packed_long : length op ≤ l.bytes → length (packed l op).bytes ≡ l.bytes
  unfolding packed
  packed_long h = padded_long op l.bytes h

  packed_small : Bytes op → (j : ℕ) → get_or (packed l op).bytes j 0 < 256
  unfolding packed
  packed_small h j = go (dec_lt j (length op))
    where
      go : Dec (j < length op) → get_or (over (length op) op (replicate l.bytes 0)) j 0 < 256
      go (yes q) = rw (over_front op l.bytes j q) (bytes_at op h j)
      go (no q) = rw (over_past op l.bytes j (omega (arith, q))) (omega arith)

module _ (l : Limits) (ns : List ℕ) (es : List Decision) (whole : Whole l ns es) where
  abbrev ring : List Record
  ring = (made l ns es).records

  -- whatever is said of kept operations and of none holds of each place
  each_place :
      (P : Packed → Type 0) → ((e : Decision) → Entry l ns e → P (packed l e.op)) → P (empty l) → (j : ℕ) →
      j < most_kept → P (get_or ring j no_record).op
  each_place P kept none j h = go (dec_lt j (total (made l ns es).next))
    where
      go : Dec (j < total (made l ns es).next) → P (get_or ring j no_record).op
      go (yes q) =
          let (i, (lt, is)) = place_full l ns es whole j h q in
          subst (λ (r : Record). P r.op) (sym is) (kept (get_or es i no_decision) (whole.sofar.each i lt))
      go (no q) =
          subst (λ (r : Record). P r.op) (sym (place_empty l ns es whole j h (omega (arith, q)))) none

  short : (e : Decision) → Entry l ns e → length e.op ≤ l.bytes
  short e own =
      let p = op_of l (width_in ns) e.op own.formed in (formed l (width_in ns) e.op p.0 p.1).bytes

  pub made_real : Real l (made l ns es)
  unfolding filled
  made_real = record {
    cells_long =
        padded_long (cells_in ns) l.cells
        (omega (arith, cells_long l ns es whole, (whole.sofar.width_fits whole.three).1));
    next_long =
        padded_long (nexts_in ns) most_machines
        (omega (arith, nexts_long l ns es whole, (whole.sofar.machines_fit (omega (arith, whole.three))).1));
    records_long =
        placed_long l (made l ns es).next _ es (replicate most_kept (empty_record l)) ∙ length-replicate most_kept
        (empty_record l);
    bytes_long =
        each_place (λ o. length o.bytes ≡ l.bytes) (λ e own. packed_long l e.op (short e own))
        (length-replicate {A = ℕ} l.bytes 0);
    bytes_small =
        λ i j. each_place (λ o. get_or o.bytes j 0 < 256) (λ e own. packed_small l e.op own.bytes j)
        (rw (all_zero l.bytes j) (omega arith)) i;
  }
