-- Places for operations. Assumes nothing: these are definitions.
use Rattle.std.specs.Prelude.{ℕ, Bool, ◌&&◌, leb, eqb}
use Rattle.basics.specs.Counts.{zeros_from}
use Rattle.operation.specs.Limits.{Limits}
use Rattle.operation.specs.Packing.{unpacked}
use Rattle.operation.specs.Reading.{well_formed}
use Rattle.operation.specs.declared.Packed.{Packed}

-- a place that holds an operation: well formed, and zeros after its bytes
unfoldable pub holds : Limits → ℕ → Packed → Bool
holds l width o = leb o.len l.bytes && (well_formed l width (unpacked o) && zeros_from o.bytes o.len)

-- a place that holds none
unfoldable pub blank : Packed → Bool
blank o = eqb o.len 0 && zeros_from o.bytes 0
