-- The answers of the code that measures an operation. Assumes nothing: these are definitions.
use Rattle.std.specs.Prelude.{ℕ, Option as Known, Some, None}
use Rattle.std.proofs.Math.Option.{Option, some, none}
use Rattle.operation.specs.Tree.{Op, Ops, op_size, ops_size}

-- how many bytes what was read takes
abbrev pub size_of : Option Op → Known ℕ
size_of (some p) = Some (op_size p)
size_of none = None

abbrev pub sizes_of : Option Ops → Known ℕ
sizes_of (some ps) = Some (ops_size ps)
sizes_of none = None
