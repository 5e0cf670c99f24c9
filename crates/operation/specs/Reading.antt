-- The operation that bytes are: from bytes to the tree. Assumes nothing: these are definitions.
use Rattle.std.specs.Prelude.{ℕ, zero, suc, Bool, true, false, ◌&&◌, List, leb, eqb, length, drop, if◌then◌else◌, Option as Known, Some, None}
use Rattle.std.proofs.Math.Option.{Option, some, none, map, bind}
use Rattle.operation.specs.Limits.{Limits}
use Rattle.operation.specs.FirstBytes.{kind_of}
use Rattle.operation.specs.Tree.{Op, Ops, plain, atomic, orelse, end, ◌then◌, op_size}
use Rattle.operation.specs.declared.kind.Kind.{Kind}
use Rattle.operation.specs.declared.kind.Kind.TheVariants.{One, Atomic, Orelse}

-- the n operations that s begins with, each read by `inner`
unfoldable pub read_parts : (List ℕ → Option Op) → ℕ → List ℕ → Option Ops
read_parts inner zero s = some end
read_parts inner (suc n) s =
    bind (inner s) (λ p. map (λ ps. p then ps) (read_parts inner n (drop (op_size p) s)))

-- the two operations that s begins with
unfoldable pub read_two : (List ℕ → Option Op) → List ℕ → Option Op
read_two inner s = bind (inner s) (λ p. map (λ q. orelse p q) (inner (drop (op_size p) s)))

-- the operation of this kind that s begins with, its parts read by `inner`
unfoldable pub read_body : (List ℕ → Option Op) → Known Kind → List ℕ → Option Op
read_body inner (Some (One p)) s = some (plain p)
read_body inner (Some (Atomic n)) s = map atomic (read_parts inner n (drop 2 s))
read_body inner (Some Orelse) s = read_two inner (drop 1 s)
read_body inner None s = none

-- the operation, at most `depth` deep, that s begins with
unfoldable pub read_op : Limits → ℕ → ℕ → List ℕ → Option Op
read_op l width zero s = none
read_op l width (suc depth) s = read_body (read_op l width depth) (kind_of l width s) s

-- an operation uses all its bytes
abbrev pub whole : ℕ → Option Op → Option Op
whole n (some p) = if eqb (op_size p) n then some p else none
whole n none = none

-- the operation that s is, within the limits
unfoldable pub operation_of : Limits → ℕ → List ℕ → Option Op
operation_of l width s =
    if leb width l.cells && leb (length s) l.bytes
    then whole (length s) (read_op l width l.depth s)
    else none

abbrev pub is_some : Option Op → Bool
is_some (some p) = true
is_some none = false

unfoldable pub well_formed : Limits → ℕ → List ℕ → Bool
well_formed l width s = is_some (operation_of l width s)
