-- An operation as it is kept. Assumes nothing: these are definitions.
use Rattle.std.specs.Prelude.{ℕ, Bool, true, false, ◌&&◌, List, [], ◌∷◌, eqb, length, take, replicate}
use Rattle.basics.specs.Over.{over}
use Rattle.operation.specs.Limits.{Limits}
use Rattle.operation.specs.declared.Packed.{Packed}

-- its bytes
abbrev pub unpacked : Packed → List ℕ
unpacked o = take o.len o.bytes

-- the operation s, kept: its length, and its bytes with zeros after them
unfoldable pub packed : Limits → List ℕ → Packed
packed l s = record { len = length s; bytes = over (length s) s (replicate l.bytes 0) }

-- a place that holds none
abbrev pub empty : Limits → Packed
empty l = record { len = 0; bytes = replicate l.bytes 0 }

-- what `get_or` gives past the end of a list of them
abbrev pub nothing : Packed
nothing = record { len = 0; bytes = [] }

-- whether two operations have the same bytes
unfoldable pub same_bytes : List ℕ → List ℕ → Bool
same_bytes [] [] = true
same_bytes [] (y ∷ ys) = false
same_bytes (x ∷ xs) [] = false
same_bytes (x ∷ xs) (y ∷ ys) = eqb x y && same_bytes xs ys
