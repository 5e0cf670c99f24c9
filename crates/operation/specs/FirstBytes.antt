-- What the first bytes of an operation say. Assumes nothing: these are definitions.
use Rattle.std.specs.Prelude.{ℕ, ◌≡◌, ◌+◌, ◌*◌, not, ◌&&◌, List, ltb, leb, eqb, length, get_or, if◌then◌else◌, Option, Some, None}
use Rattle.operation.specs.Limits.{Limits}
use Rattle.operation.specs.declared.Plain.{Plain}
use Rattle.operation.specs.declared.Plain.TheVariants.{Need, Put, Draw, Move}
use Rattle.operation.specs.declared.kind.Kind.{Kind}
use Rattle.operation.specs.declared.kind.Kind.TheVariants.{One, Atomic, Orelse}

abbrev pub byte : List ℕ → ℕ → ℕ
byte s i = get_or s i 0

-- two bytes, high byte first
abbrev pub two : ℕ → ℕ → ℕ
two high low = high * 256 + low

-- a cell and an amount
abbrev pub Fields : Type 0
Fields = ℕ × ℕ

-- the plain operation that `kind` makes of a cell and an amount
abbrev pub plain_of : (ℕ → ℕ → Plain) → Option Fields → Option Kind
plain_of kind (Some (cell, amount)) = Some (One (kind cell amount))
plain_of kind None = None

-- a call of a cell and an amount that can only give what `kind` makes of them
abbrev pub Makes : (ℕ → ℕ → Plain → Type 0) → (ℕ → ℕ → Plain) → Type 0
Makes gives kind = (cell amount : ℕ) (p : Plain) → gives cell amount p → p ≡ kind cell amount

-- ATOMIC says how many parts it has
unfoldable pub atomic_of : Limits → List ℕ → Option Kind
atomic_of l s = if leb 2 (length s) && leb (byte s 1) l.parts then Some (Atomic (byte s 1)) else None

module _ (l : Limits) (width : ℕ) where
  -- a cell below the number of cells, and an amount of 1 to the limit
  abbrev pub in_range : ℕ → ℕ → Option Fields
  in_range cell amount =
      if ltb cell width && (leb 1 amount && leb amount l.amount) then Some (cell, amount) else None

  -- the cell at `at`, and the amount in the two bytes after it
  unfoldable pub fields_at : List ℕ → ℕ → Option Fields
  fields_at s at =
      if leb (at + 3) (length s) then in_range (byte s at) (two (byte s (at + 1)) (byte s (at + 2))) else None

  -- MOVE goes from a cell to another one
  abbrev pub move_from : ℕ → Option Fields → Option Kind
  move_from from (Some (to, amount)) =
      if ltb from width && not (eqb from to) then Some (One (Move from to amount)) else None
  move_from from None = None

  unfoldable pub move_of : List ℕ → Option Kind
  move_of s = move_from (byte s 1) (fields_at s 2)

  -- the first byte decides the kind
  unfoldable pub kind_of : List ℕ → Option Kind
  kind_of s =
      if eqb (length s) 0 then None
      else (if eqb (byte s 0) 0x01 then plain_of Need (fields_at s 1)
      else (if eqb (byte s 0) 0x02 then plain_of Put (fields_at s 1)
      else (if eqb (byte s 0) 0x03 then plain_of Draw (fields_at s 1)
      else (if eqb (byte s 0) 0x04 then move_of s
      else (if eqb (byte s 0) 0x10 then atomic_of l s
      else (if eqb (byte s 0) 0x11 then Some Orelse
      else None))))))
