-- Laws of places for operations. Assumes nothing.
use Prim.Native.Nat.{ℕ}
use mathlib.Core.Bool.{true}
use mathlib.Core.List.{List}
use mathlib.Core.Path.{◌≡◌}
use lib.Dec.{leb}
use lib.ListN.{length}
use borrow.Author.Tests.{le-leb, leb-true}
use Rattle.basics.specs.Counts.{zeros_from}
use Rattle.basics.proofs.Choice.{and_both}
use Rattle.operation.specs.Limits.{Limits}
use Rattle.operation.specs.Packing.{unpacked, packed, empty}
use Rattle.operation.specs.Reading.{well_formed}
use Rattle.operation.specs.declared.Packed.{Packed}
use Rattle.operation.proofs.Packing.{len_packed, unpacked_packed, packed_zeros, zeros_are}
use Rattle.operation.proofs.WellFormed.{formed, op_of}
use Rattle.state.specs.Holding.{holds, blank}
use Rattle.effect.specs.Replaying.{Sound}

-- a place that holds an operation can be run
pub held_sound : (l : Limits) (width : ℕ) (o : Packed) → holds l width o ≡ true → Sound l width o
unfolding holds
held_sound l width o h =
    let (a, b) = and_both (leb o.len l.bytes) _ h in
    record {
      fits = leb-true _ _ a;
      formed = (and_both (well_formed l width (unpacked o)) (zeros_from o.bytes o.len) b).0;
    }

-- an operation that is kept is held, and an empty place is blank
pub packed_held :
    (l : Limits) (width : ℕ) (op : List ℕ) → well_formed l width op ≡ true → holds l width (packed l op) ≡ true
unfolding holds
packed_held l width op w =
    let p = op_of l width op w in
    let short = (formed l width op p.0 p.1).bytes in
    simp (
      len_packed l op,
      le-leb (length op) l.bytes short,
      rw (len_packed l op) at (unpacked_packed l op),
      w,
      packed_zeros l op,
    )

pub empty_blank : (l : Limits) → blank (empty l) ≡ true
unfolding blank
empty_blank l = simp (zeros_are l.bytes)
