-- An operation as a tree. Assumes nothing: these are definitions.
use Rattle.std.specs.Prelude.{ℕ, ◌+◌, max}
use Rattle.operation.specs.declared.Plain.{Plain}
use Rattle.operation.specs.declared.Plain.TheVariants.{Need, Put, Draw, Move}

infixr 50 ◌then◌
mutual
  pub data Op : Type 0 where
    plain : Plain → Op
    atomic : Ops → Op
    orelse : Op → Op → Op

  pub data Ops : Type 0 where
    end : Ops
    ◌then◌ : Op → Ops → Ops

-- how many bytes it takes
abbrev pub plain_size : Plain → ℕ
plain_size (Need cell amount) = 4
plain_size (Put cell amount) = 4
plain_size (Draw cell amount) = 4
plain_size (Move from to amount) = 5

unfoldable mutual
  pub op_size : Op → ℕ
  op_size (plain p) = plain_size p
  op_size (atomic ps) = 2 + ops_size ps
  op_size (orelse p q) = 1 + (op_size p + op_size q)

  pub ops_size : Ops → ℕ
  ops_size end = 0
  ops_size (p then ps) = op_size p + ops_size ps

-- 1 for the plain kinds and an empty ATOMIC, else one more than the deepest part
unfoldable mutual
  pub depth_of : Op → ℕ
  depth_of (plain p) = 1
  depth_of (atomic ps) = 1 + deepest ps
  depth_of (orelse p q) = 1 + max (depth_of p) (depth_of q)

  pub deepest : Ops → ℕ
  deepest end = 0
  deepest (p then ps) = max (depth_of p) (deepest ps)
