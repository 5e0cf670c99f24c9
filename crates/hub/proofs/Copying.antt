-- A hub in shape is copied as one that is known to be. Assumes nothing.
use Prim.Native.Nat.{ℕ}
use mathlib.Core.Bool.{true}
use mathlib.Core.List.{List}
use mathlib.Core.Path.{◌≡◌}
use lib.ListN.{length}
use Rattle.operation.specs.Limits.{Limits}
use Rattle.hub.specs.Shape.{shaped}
use Rattle.hub.specs.Copying.{copy_known, copy_of, copied_known, copied_into}
use Rattle.hub.specs.declared.Hub.{Hub}

pub copy_known_lem :
    (l : Limits) (h : Hub) (machine : ℕ) (buf : List ℕ) → shaped l h ≡ true →
    (copy_known l h machine (length buf) ≡ copy_of l h machine (length buf)) ×
    (copied_known l h machine buf ≡ copied_into l h machine buf)
unfolding copy_of copied_into
copy_known_lem l h machine buf e = (rw e, rw e)
