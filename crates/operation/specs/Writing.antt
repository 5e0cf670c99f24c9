-- The bytes of an operation: from the tree to bytes. Assumes nothing: these are definitions.
use Rattle.std.specs.Prelude.{ℕ, suc, ◌/◌, ◌%◌, ◌≤◌, ◌<◌, List, [], ◌∷◌, ◌++◌, ◌≡◌, length}
use Rattle.operation.specs.Limits.{Limits}
use Rattle.operation.specs.Tree.{Op, Ops, plain, atomic, orelse, end, ◌then◌, depth_of}
use Rattle.operation.specs.declared.Plain.{Plain}
use Rattle.operation.specs.declared.Plain.TheVariants.{Need, Put, Draw, Move}

-- an amount is two bytes, high byte first
abbrev pub amount_bytes : ℕ → List ℕ
amount_bytes amount = amount / 256 ∷ amount % 256 ∷ []

abbrev pub plain_bytes : Plain → List ℕ
plain_bytes (Need cell amount) = 0x01 ∷ cell ∷ amount_bytes amount
plain_bytes (Put cell amount) = 0x02 ∷ cell ∷ amount_bytes amount
plain_bytes (Draw cell amount) = 0x03 ∷ cell ∷ amount_bytes amount
plain_bytes (Move from to amount) = 0x04 ∷ from ∷ to ∷ amount_bytes amount

-- how many parts
unfoldable pub count : Ops → ℕ
count end = 0
count (p then ps) = suc (count ps)

unfoldable mutual
  pub op_bytes : Op → List ℕ
  op_bytes (plain p) = plain_bytes p
  op_bytes (atomic ps) = 0x10 ∷ count ps ∷ ops_bytes ps
  op_bytes (orelse p q) = 0x11 ∷ op_bytes p ++ op_bytes q

  pub ops_bytes : Ops → List ℕ
  ops_bytes end = []
  ops_bytes (p then ps) = op_bytes p ++ ops_bytes ps

-- cells below the number of cells, an amount of 1 to the limit, and a MOVE between two cells
abbrev pub PlainWithin : Limits → ℕ → Plain → Type 0
PlainWithin l width (Need cell amount) = (cell < width) × (1 ≤ amount) × (amount ≤ l.amount)
PlainWithin l width (Put cell amount) = (cell < width) × (1 ≤ amount) × (amount ≤ l.amount)
PlainWithin l width (Draw cell amount) = (cell < width) × (1 ≤ amount) × (amount ≤ l.amount)
PlainWithin l width (Move from to amount) =
    (from < width) × (to < width) × (from ≡ to → ⊥) × (1 ≤ amount) × (amount ≤ l.amount)

-- and no ATOMIC of more parts than the limit
unfoldable mutual
  pub OpWithin : Limits → ℕ → Op → Type 0
  OpWithin l width (plain p) = PlainWithin l width p
  OpWithin l width (atomic ps) = (count ps ≤ l.parts) × OpsWithin l width ps
  OpWithin l width (orelse p q) = OpWithin l width p × OpWithin l width q

  pub OpsWithin : Limits → ℕ → Ops → Type 0
  OpsWithin l width end = Unit {0}
  OpsWithin l width (p then ps) = OpWithin l width p × OpsWithin l width ps

-- an operation within the limits: what the paper allows, said of trees and not of how bytes are read
pub record Allowed (l : Limits) (width : ℕ) (p : Op) : Type 0 where
  pub cells : width ≤ l.cells
  pub depth : depth_of p ≤ l.depth
  pub bytes : length (op_bytes p) ≤ l.bytes
  pub parts : OpWithin l width p
