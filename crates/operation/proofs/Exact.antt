-- Bytes are an operation exactly where they are the bytes of one that is within the limits. Assumes nothing.
use Prim.Native.Nat.{ℕ, zero, suc, ◌/◌, ◌%◌, ◌≤◌, ◌<◌}
use native.Mathlib.Omega.{arith}
use mathlib.Core.Bool.{true}
use mathlib.Core.Logic.{◌↔◌}
use mathlib.Core.Path.{◌≡◌, refl, sym, ap}
use mathlib.Core.List.{List, [], ◌∷◌, ◌++◌, append_assoc, append-nil}
use mathlib.Core.Option.{some, bind}
use Rattle.std.specs.Prelude.{Some}
use lib.ListN.{length, drop, length-append}
use lib.Seq.{drop_at}
use borrow.Author.Tests.{le-leb, eq-eqb}
use Rattle.operation.specs.Limits.{Limits}
use Rattle.operation.specs.FirstBytes.{two, fields_at, kind_of}
use Rattle.operation.specs.Tree.{
  Op,
  Ops,
  plain,
  atomic,
  orelse,
  end,
  ◌then◌,
  plain_size,
  op_size,
  ops_size,
  depth_of,
  deepest,
}
use Rattle.operation.specs.Reading.{read_parts, read_two, read_body, read_op, operation_of, well_formed}
use Rattle.operation.specs.Writing.{
  amount_bytes,
  plain_bytes,
  count,
  op_bytes,
  ops_bytes,
  PlainWithin,
  OpWithin,
  OpsWithin,
  Allowed,
}
use Rattle.operation.specs.declared.Plain.{Plain}
use Rattle.operation.specs.declared.Plain.TheVariants.{Need, Put, Draw, Move}
use Rattle.operation.specs.declared.kind.Kind.TheVariants.{One, Atomic, Orelse}
use Rattle.operation.proofs.FirstBytes.{
  PlainRead,
  kind_is,
  fields_of,
  move_of_lem,
  atomic_of_lem,
  kind_need,
  kind_put,
  kind_draw,
  kind_move,
  kind_atomic,
  kind_orelse,
}
use Rattle.operation.proofs.Reading.{ByKinds, reads_op}
use Rattle.operation.proofs.WellFormed.{formed, op_of, is_op}
use Rattle.operation.proofs.Depth.{depth_within}
use Rattle.operation.proofs.Writing.{Bytes, bytes_are}

plain_length : (p : Plain) → length (plain_bytes p) ≡ plain_size p
plain_length (Need cell amount) = refl
plain_length (Put cell amount) = refl
plain_length (Draw cell amount) = refl
plain_length (Move from to amount) = refl

-- an operation has as many bytes as its size says
mutual
  unfolding op_size op_bytes

  pub op_length : (p : Op) → length (op_bytes p) ≡ op_size p
  op_length (plain p) = plain_length p
  op_length (atomic ps) = omega (arith, ops_length ps)
  op_length (orelse p q) = omega (arith, op_length p, op_length q, length-append (op_bytes p) (op_bytes q))

  pub ops_length : (ps : Ops) → length (ops_bytes ps) ≡ ops_size ps
  ops_length end = refl
  ops_length (p then ps) = omega (arith, op_length p, ops_length ps, length-append (op_bytes p) (ops_bytes ps))

-- an amount is read back from its two bytes
amount_back : (amount : ℕ) → amount ≡ two (amount / 256) (amount % 256)
amount_back amount = omega arith

-- the bytes of each kind, whatever follows them, are of that kind
module _ (l : Limits) (width : ℕ) where
  module _ (code cell amount : ℕ) (rest : List ℕ) (below : cell < width) (least : 1 ≤ amount) (most : amount ≤ l.amount) where
    fields_back : Some (cell, amount) ≡ fields_at l width (code ∷ cell ∷ (amount_bytes amount ++ rest)) 1
    fields_back =
        fields_of l width (code ∷ cell ∷ (amount_bytes amount ++ rest)) 1 (omega arith) below amount
        (amount_back amount) least most

  plain_back : (p : Plain) (rest : List ℕ) → PlainWithin l width p → Some (One p) ≡ kind_of l width (plain_bytes p ++ rest)
  plain_back (Need cell amount) rest w =
      kind_need l width (0x01 ∷ cell ∷ (amount_bytes amount ++ rest)) (omega arith) (Some (cell, amount))
      (fields_back 0x01 cell amount rest w.0 w.1 w.2) refl
  plain_back (Put cell amount) rest w =
      kind_put l width (0x02 ∷ cell ∷ (amount_bytes amount ++ rest)) (omega arith) (Some (cell, amount))
      (fields_back 0x02 cell amount rest w.0 w.1 w.2) refl
  plain_back (Draw cell amount) rest w =
      kind_draw l width (0x03 ∷ cell ∷ (amount_bytes amount ++ rest)) (omega arith) (Some (cell, amount))
      (fields_back 0x03 cell amount rest w.0 w.1 w.2) refl
  plain_back (Move from to amount) rest w =
      let s : List ℕ = 0x04 ∷ from ∷ to ∷ (amount_bytes amount ++ rest) in
      kind_move l width s (omega arith) (Some (One (Move from to amount)))
      (move_of_lem l width s to amount
      (fields_of l width s 2 (omega arith) w.1 amount (amount_back amount) w.3 w.4) w.0 w.2)
      refl

  atomic_back : (n : ℕ) (rest : List ℕ) → n ≤ l.parts → Some (Atomic n) ≡ kind_of l width (0x10 ∷ n ∷ rest)
  atomic_back n rest most =
      kind_atomic l width (0x10 ∷ n ∷ rest) (omega arith) (Some (Atomic n))
      (atomic_of_lem l (0x10 ∷ n ∷ rest) (omega arith) most) refl

  orelse_back : (rest : List ℕ) → Some Orelse ≡ kind_of l width (0x11 ∷ rest)
  orelse_back rest = kind_orelse l width (0x11 ∷ rest) (omega arith) refl

  -- what follows an operation's bytes is left when they are read
  left : (p : Op) (rest : List ℕ) → drop (op_size p) (op_bytes p ++ rest) ≡ rest
  left p rest = drop_at (op_bytes p) rest (op_size p) (op_length p)

  -- the bytes of an operation within the limits are read back, at every depth that it fits, whatever follows them
  mutual
    unfolding read_op read_body read_two read_parts bind op_bytes depth_of OpWithin count

    read_back :
        (p : Op) (d : ℕ) (rest : List ℕ) → OpWithin l width p → depth_of p ≤ d →
        read_op l width d (op_bytes p ++ rest) ≡ some p
    read_back (plain p) zero rest w f = absurd (omega arith)
    read_back (plain p) (suc d) rest w f = rw (← (plain_back p rest w))
    read_back (atomic ps) zero rest w f = absurd (omega arith)
    read_back (atomic ps) (suc d) rest w f =
        rw (← (atomic_back (count ps) (ops_bytes ps ++ rest) w.0), parts_back ps d rest w.1 (omega arith))
    read_back (orelse p q) zero rest w f = absurd (omega arith)
    read_back (orelse p q) (suc d) rest w f =
        rw (
          ← (orelse_back ((op_bytes p ++ op_bytes q) ++ rest)),
          append_assoc (op_bytes p) (op_bytes q) rest,
          read_back p
              d (op_bytes q ++ rest) w.0 (omega arith),
          left p (op_bytes q ++ rest),
          read_back q d rest w.1
              (omega arith),
        )

    parts_back :
        (ps : Ops) (d : ℕ) (rest : List ℕ) → OpsWithin l width ps → deepest ps ≤ d →
        read_parts (read_op l width d) (count ps) (ops_bytes ps ++ rest) ≡ some ps
    parts_back end d rest w f = refl
    parts_back (p then ps) d rest w f =
        rw (
          append_assoc (op_bytes p) (ops_bytes ps) rest,
          read_back p d (ops_bytes ps ++ rest) w.0 (omega arith),
          left
              p (ops_bytes ps ++ rest),
          parts_back ps d rest w.1 (omega arith),
        )

  -- what is read is within the limits
  plain_within : (s : List ℕ) (p : Plain) → PlainRead l width s p → PlainWithin l width p
  plain_within s (Need cell amount) r = (r.1.below, r.1.least, r.1.most)
  plain_within s (Put cell amount) r = (r.1.below, r.1.least, r.1.most)
  plain_within s (Draw cell amount) r = (r.1.below, r.1.least, r.1.most)
  plain_within s (Move from to amount) r = (r.3, r.1.below, r.4, r.1.least, r.1.most)

  record Within (d : ℕ) (s : List ℕ) (p : Op) : Type 0 where
    within : OpWithin l width p

  record AllWithin (d n : ℕ) (s : List ℕ) (ps : Ops) : Type 0 where
    counted : count ps ≡ n
    within : OpsWithin l width ps

  all_within : ByKinds l width Within AllWithin
  unfolding OpWithin count
  all_within = record {
    on_plain = λ d s p h. record { within = plain_within s p (kind_is l width s (Some (One p)) h) };
    on_atomic = λ d n s ps h r. record {
      within = (omega (arith, r.counted, (kind_is l width s (Some (Atomic n)) h).3), r.within);
    };
    on_orelse = λ d s p q h f g. record { within = (f.within, g.within) };
    on_end = λ d s. record { counted = refl; within = tt };
    on_then = λ d n s p ps f g. record { counted = ap suc g.counted; within = (f.within, g.within) };
  }

  -- bytes that are an operation are the bytes of one that is allowed
  pub is_allowed :
      (s : List ℕ) (p : Op) → Bytes s → operation_of l width s ≡ some p → Allowed l width p × (s ≡ op_bytes p)
  is_allowed s p b e =
      let f = formed l width s p e in (
        record {
          cells = f.cells;
          depth = depth_within l width l.depth s p f.is_read;
          bytes = omega (arith, op_length p, f.uses_all, f.bytes);
          parts =
              (reads_op l width Within AllWithin all_within l.depth s p
              f.is_read).within;
        },
        bytes_are l width s p b e,
      )

  -- and the bytes of one that is allowed are that operation
  pub allowed_is : (p : Op) → Allowed l width p → operation_of l width (op_bytes p) ≡ some p
  unfolding operation_of
  allowed_is p a =
      let read : read_op l width l.depth (op_bytes p) ≡ some p = rw append-nil at
      (read_back p l.depth [] a.parts a.depth) in
      simp (
        le-leb _ _ a.cells,
        le-leb _ _ a.bytes,
        read,
        eq-eqb (op_size p) (length (op_bytes p))
            (sym (op_length p)),
      )

  pub exactly :
      (s : List ℕ) → Bytes s → well_formed l width s ≡ true ↔ ((p : Op) × Allowed l width p × (s ≡ op_bytes p))
  exactly s b = (
    λ h. let p = op_of l width s h in let a = is_allowed s p.0 b p.1 in (p.0, a.0, a.1),
    λ t. is_op l width s t.0 (rw t.2 (allowed_is t.0 t.1)),
  )
