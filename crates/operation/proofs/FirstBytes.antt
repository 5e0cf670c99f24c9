-- Laws of what the first bytes say: which tests give which kind, and what a kind says of the bytes. Assumes nothing.
use Prim.Native.Nat.{ℕ, ◌+◌, ◌≤◌, ◌<◌}
use native.Mathlib.Omega.{arith}
use mathlib.Core.Path.{◌≡◌, refl}
use mathlib.Core.Bool.{false, not, ◌&&◌}
use mathlib.Core.List.{List}
use lib.Dec.{ltb, leb, eqb}
use lib.ListN.{length}
use borrow.Author.Tests.{lt-ltb, le-ltb, le-leb, ne_eqb, ltb-true, leb-true, eqb-true, eqb-false, not-true}
use Rattle.std.specs.Prelude.{Option, Some, None}
use Rattle.basics.proofs.Choice.{by_cases, and_both}
use Rattle.operation.specs.Limits.{Limits}
use Rattle.operation.specs.FirstBytes.{Fields, byte, two, fields_at, plain_of, move_from, move_of, atomic_of, kind_of}
use Rattle.operation.specs.declared.Plain.{Plain}
use Rattle.operation.specs.declared.Plain.TheVariants.{Need, Put, Draw, Move}
use Rattle.operation.specs.declared.kind.Kind.{Kind}
use Rattle.operation.specs.declared.kind.Kind.TheVariants.{One, Atomic, Orelse}

module _ (l : Limits) (s : List ℕ) where
  pub atomic_of_lem : 2 ≤ length s → byte s 1 ≤ l.parts → Some (Atomic (byte s 1)) ≡ atomic_of l s
  unfolding atomic_of
  atomic_of_lem g h = simp (le-leb _ _ g, le-leb _ _ h)

module _ (l : Limits) (width : ℕ) (s : List ℕ) where
  pub fields_of :
      (at : ℕ) → at + 3 ≤ length s → byte s at < width → (a : ℕ) → a ≡ two (byte s (at + 1)) (byte s (at + 2)) →
      1 ≤ a → a ≤ l.amount → Some (byte s at, a) ≡ fields_at l width s at
  unfolding fields_at
  fields_of at long cell a amount g h =
      simp (le-leb _ _ long, lt-ltb _ _ cell, ← amount, le-leb _ _ g, le-leb _ _ h)

  module _ (to amount : ℕ) (fields : Some (to, amount) ≡ fields_at l width s 2) where
    pub move_from_lem : width ≤ byte s 1 → None ≡ move_of l width s
    unfolding move_of
    move_from_lem h = rw (← fields) (simp (le-ltb _ _ h))

    pub move_of_lem : byte s 1 < width → (byte s 1 ≡ to → ⊥) → Some (One (Move (byte s 1) to amount)) ≡ move_of l width s
    unfolding move_of
    move_of_lem g h = rw (← fields) (simp (lt-ltb _ _ g, ne_eqb _ _ h))

  -- the kind that each first byte decides
  module _ (some : 1 ≤ length s) where
    not_none : eqb (length s) 0 ≡ false
    not_none = ne_eqb (length s) 0 (omega arith)

    module _ (f : Option Fields) (fields : f ≡ fields_at l width s 1) where
      pub kind_need : byte s 0 ≡ 0x01 → plain_of Need f ≡ kind_of l width s
      unfolding kind_of
      kind_need h = rw fields (simp (not_none, h))

      pub kind_put : byte s 0 ≡ 0x02 → plain_of Put f ≡ kind_of l width s
      unfolding kind_of
      kind_put h = rw fields (simp (not_none, h))

      pub kind_draw : byte s 0 ≡ 0x03 → plain_of Draw f ≡ kind_of l width s
      unfolding kind_of
      kind_draw h = rw fields (simp (not_none, h))

    pub kind_move : (k : Option Kind) → k ≡ move_of l width s → byte s 0 ≡ 0x04 → k ≡ kind_of l width s
    unfolding kind_of
    kind_move k e h = rw e (simp (not_none, h))

    pub kind_atomic : (k : Option Kind) → k ≡ atomic_of l s → byte s 0 ≡ 0x10 → k ≡ kind_of l width s
    unfolding kind_of
    kind_atomic k e h = rw e (simp (not_none, h))

    pub kind_orelse : byte s 0 ≡ 0x11 → Some Orelse ≡ kind_of l width s
    unfolding kind_of
    kind_orelse h = simp (not_none, h)

-- what a cell and an amount that were read say of the bytes at `at`
pub record FieldsRead (l : Limits) (width : ℕ) (s : List ℕ) (at cell amount : ℕ) : Type 0 where
  pub long : at + 3 ≤ length s
  pub cell_is : cell ≡ byte s at
  pub below : cell < width
  pub amount_is : amount ≡ two (byte s (at + 1)) (byte s (at + 2))
  pub least : 1 ≤ amount
  pub most : amount ≤ l.amount

module _ (l : Limits) (width : ℕ) (s : List ℕ) where
  -- what each kind says of the bytes
  abbrev pub PlainRead : Plain → Type 0
  PlainRead (Need cell amount) = (byte s 0 ≡ 0x01) × FieldsRead l width s 1 cell amount
  PlainRead (Put cell amount) = (byte s 0 ≡ 0x02) × FieldsRead l width s 1 cell amount
  PlainRead (Draw cell amount) = (byte s 0 ≡ 0x03) × FieldsRead l width s 1 cell amount
  PlainRead (Move from to amount) =
      (byte s 0 ≡ 0x04) × FieldsRead l width s 2 to amount × (from ≡ byte s 1) × (from < width) × (from ≡ to → ⊥)

  abbrev pub KindRead : Option Kind → Type 0
  KindRead (Some (One p)) = PlainRead p
  KindRead (Some (Atomic n)) = (byte s 0 ≡ 0x10) × (2 ≤ length s) × (n ≡ byte s 1) × (n ≤ l.parts)
  KindRead (Some Orelse) = (byte s 0 ≡ 0x11) × (1 ≤ length s)
  KindRead None = Unit {0}

  abbrev FieldsAre : ℕ → Option Fields → Type 0
  FieldsAre at (Some (cell, amount)) = FieldsRead l width s at cell amount
  FieldsAre at None = Unit {0}

  fields_read : (at : ℕ) → FieldsAre at (fields_at l width s at)
  unfolding fields_at
  fields_read at =
      by_cases (FieldsAre at) (leb (at + 3) (length s)) (λ long.
      by_cases (FieldsAre at)
      (ltb (byte s at)
      width && (leb 1 (two (byte s (at + 1)) (byte s (at + 2))) && leb (two (byte s (at + 1)) (byte s (at + 2)))
      l.amount))
      (λ h.
      let (cell, amount) = and_both _ _ h in
      let (least, most) = and_both _ _ amount in
      record {
        long = leb-true _ _ long;
        cell_is = refl;
        below = ltb-true _ _ cell;
        amount_is = refl;
        least = leb-true _ _ least;
        most = leb-true _ _ most;
      })
      (λ _. tt))
      (λ _. tt)

  plain_read :
      (kind : ℕ → ℕ → Plain) →
      ((cell amount : ℕ) → FieldsRead l width s 1 cell amount → PlainRead (kind cell amount)) →
      (f : Option Fields) → FieldsAre 1 f → KindRead (plain_of kind f)
  plain_read kind says (Some (cell, amount)) r = says cell amount r
  plain_read kind says None r = tt

  move_read : byte s 0 ≡ 0x04 → (f : Option Fields) → FieldsAre 2 f → KindRead (move_from l width (byte s 1) f)
  move_read code (Some (to, amount)) r =
      by_cases KindRead (ltb (byte s 1) width && not (eqb (byte s 1) to))
      (λ h.
      let (below, other) = and_both _ _ h in
      (code, r, refl, ltb-true _ _ below, eqb-false _ _ (not-true _ other)))
      (λ _. tt)
  move_read code None r = tt

  atomic_read : byte s 0 ≡ 0x10 → KindRead (atomic_of l s)
  unfolding atomic_of
  atomic_read code =
      by_cases KindRead (leb 2 (length s) && leb (byte s 1) l.parts)
      (λ h.
      let (long, most) = and_both _ _ h in
      (code, leb-true _ _ long, refl, leb-true _ _ most))
      (λ _. tt)

  pub kind_read : KindRead (kind_of l width s)
  unfolding kind_of move_of
  kind_read =
      by_cases KindRead (eqb (length s) 0) (λ _. tt) λ some.
      by_cases KindRead (eqb (byte s 0) 0x01)
      (λ e. plain_read Need (λ k a r. (eqb-true _ _ e, r)) (fields_at l width s 1) (fields_read 1)) λ _.
      by_cases KindRead (eqb (byte s 0) 0x02)
      (λ e. plain_read Put (λ k a r. (eqb-true _ _ e, r)) (fields_at l width s 1) (fields_read 1)) λ _.
      by_cases KindRead (eqb (byte s 0) 0x03)
      (λ e. plain_read Draw (λ k a r. (eqb-true _ _ e, r)) (fields_at l width s 1) (fields_read 1)) λ _.
      by_cases KindRead (eqb (byte s 0) 0x04)
      (λ e. move_read (eqb-true _ _ e) (fields_at l width s 2) (fields_read 2)) λ _.
      by_cases KindRead (eqb (byte s 0) 0x10) (λ e. atomic_read (eqb-true _ _ e)) λ _.
      by_cases KindRead (eqb (byte s 0) 0x11) (λ e. let f : length s ≡ 0 → ⊥ =
      eqb-false _ _ some in (eqb-true _ _ e, omega arith)) λ _. tt

  -- the same of a kind that is known
  pub kind_is : (k : Option Kind) → k ≡ kind_of l width s → KindRead k
  kind_is k e = rw (← e) at kind_read
