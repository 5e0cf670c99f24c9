-- Bytes that are an operation are the bytes of that operation, so equal bytes are equal operations and the other way round.
-- Assumes nothing.
use Prim.Native.Nat.{ℕ, zero, suc, ◌+◌, ◌/◌, ◌%◌, ◌≤◌, ◌<◌}
use native.Mathlib.Numerals.{add-one}
use native.Mathlib.Omega.{arith}
use mathlib.Core.Path.{◌≡◌, refl, sym, ap, ◌∙◌}
use mathlib.Core.List.{List, [], ◌∷◌}
use mathlib.Core.Option.{some}
use Rattle.std.specs.Prelude.{Some}
use lib.ListN.{length, get_or, take, drop}
use lib.Seq.{take-add, get_or-drop, take-length, drop-cons}
use Rattle.operation.specs.Limits.{Limits}
use Rattle.operation.specs.FirstBytes.{byte, two}
use Rattle.operation.specs.Tree.{Op, Ops, plain_size, op_size, ops_size}
use Rattle.operation.specs.Reading.{operation_of}
use Rattle.operation.specs.Writing.{amount_bytes, plain_bytes, count, op_bytes, ops_bytes}
use Rattle.operation.specs.declared.Plain.{Plain}
use Rattle.operation.specs.declared.Plain.TheVariants.{Need, Put, Draw, Move}
use Rattle.operation.specs.declared.kind.Kind.TheVariants.{One, Atomic, Orelse}
use Rattle.operation.proofs.FirstBytes.{FieldsRead, PlainRead, kind_is}
use Rattle.operation.proofs.Reading.{ByKinds, reads_op}
use Rattle.operation.proofs.WellFormed.{formed}

-- every element is a byte
pub record Bytes (s : List ℕ) : Type 0 where
  pub small : (i : ℕ) → get_or s i 0 < 256

bytes_after : (n : ℕ) (s : List ℕ) → Bytes s → Bytes (drop n s)
bytes_after n s b = record { small = λ i. rw get_or-drop (b.small (n + i)) }

-- the n bytes from `at` on, one by one
bytes_at : ℕ → ℕ → List ℕ → List ℕ
bytes_at at zero s = []
bytes_at at (suc n) s = byte s at ∷ bytes_at (at + 1) n s

one_by_one : (at n : ℕ) (s : List ℕ) → at + n ≤ length s → take n (drop at s) ≡ bytes_at at n s
unfolding bytes_at
one_by_one at zero s h = refl
one_by_one at (suc n) s h = rw (drop-cons s at 0 (omega arith), ← (one_by_one (at + 1) n s (omega arith)), add-one)

amount_bytes_lem : (high low : ℕ) → low < 256 → amount_bytes (two high low) ≡ high ∷ low ∷ []
amount_bytes_lem high low h =
    let d : two high low / 256 ≡ high = omega arith in
    let m : two high low % 256 ≡ low = omega arith in
    rw (d, m)

module _ (l : Limits) (width : ℕ) (s : List ℕ) (b : Bytes s) where
  amount_is :
      (at cell amount : ℕ) → FieldsRead l width s at cell amount →
      amount_bytes amount ≡ byte s (at + 1) ∷ byte s (at + 2) ∷ []
  amount_is at cell amount r =
      rw r.amount_is (amount_bytes_lem (byte s (at + 1)) (byte s (at + 2)) (b.small (at + 2)))

  plain_bytes_lem : (p : Plain) → PlainRead l width s p → take (plain_size p) s ≡ plain_bytes p
  unfolding bytes_at
  plain_bytes_lem (Need cell amount) r =
      one_by_one 0 4 s r.1.long ∙ rw (r.0, amount_is 1 cell amount r.1, r.1.cell_is)
  plain_bytes_lem (Put cell amount) r =
      one_by_one 0 4 s r.1.long ∙ rw (r.0, amount_is 1 cell amount r.1, r.1.cell_is)
  plain_bytes_lem (Draw cell amount) r =
      one_by_one 0 4 s r.1.long ∙ rw (r.0, amount_is 1 cell amount r.1, r.1.cell_is)
  plain_bytes_lem (Move from to amount) r =
      one_by_one 0 5 s r.1.long ∙ rw (r.0, amount_is 2 to amount r.1, r.1.cell_is, r.2)

-- what is read begins with the bytes of what was read
module _ (l : Limits) (width : ℕ) where
  record Begins (d : ℕ) (s : List ℕ) (p : Op) : Type 0 where
    begins : Bytes s → take (op_size p) s ≡ op_bytes p

  record AllBegin (d n : ℕ) (s : List ℕ) (ps : Ops) : Type 0 where
    counted : count ps ≡ n
    begins : Bytes s → take (ops_size ps) s ≡ ops_bytes ps

  begin : ByKinds l width Begins AllBegin
  unfolding op_size op_bytes bytes_at count
  begin = record {
    on_plain = λ d s p h. record { begins = λ b. plain_bytes_lem l width s b p (kind_is l width s (Some (One p)) h) };
    on_atomic = λ d n s ps h r. record {
      begins = λ b.
          let k = kind_is l width s (Some (Atomic n)) h in
          take-add 2 (ops_size ps) s ∙
          rw (one_by_one 0 2 s k.1, r.begins (bytes_after 2 s b), k.0, r.counted, k.2);
    };
    on_orelse = λ d s p q h f g. record {
      begins = λ b.
          let k = kind_is l width s (Some Orelse) h in
          let after = bytes_after 1 s b in
          take-add 1 (op_size p + op_size q) s ∙
          rw (
            one_by_one 0 1 s k.1,
            take-add (op_size p) (op_size q) (drop 1 s),
            f.begins after,
            g.begins
                (bytes_after (op_size p) (drop 1 s) after),
            k.0,
          );
    };
    on_end = λ d s. record { counted = refl; begins = λ b. refl };
    on_then = λ d n s p ps f g. record {
      counted = ap suc g.counted;
      begins = λ b. take-add (op_size p) (ops_size ps) s ∙ rw (f.begins b, g.begins (bytes_after (op_size p) s b));
    };
  }

  pub bytes_are : (s : List ℕ) (p : Op) → Bytes s → operation_of l width s ≡ some p → s ≡ op_bytes p
  bytes_are s p b e =
      let f = formed l width s p e in
      let r = reads_op l width Begins AllBegin begin l.depth s p
      f.is_read in
      sym (take-length s) ∙ (rw (← f.uses_all) (r.begins b))

  -- equal bytes are equal operations, and equal operations are equal bytes
  pub same_op :
      (s t : List ℕ) (p q : Op) → operation_of l width s ≡ some p → operation_of l width t ≡ some q → s ≡ t → p ≡ q
  same_op s t p q e f h = let g : operation_of l width t ≡ some p = rw h at e in cc

  pub same_bytes_lem :
      (s t : List ℕ) (p q : Op) → Bytes s → Bytes t → operation_of l width s ≡ some p →
      operation_of l width t ≡ some q → p ≡ q → s ≡ t
  same_bytes_lem s t p q b c e f h = bytes_are s p b e ∙ (ap op_bytes h ∙ sym (bytes_are t q c f))
