-- A record is fetched from a hub in shape as from one that is known to be. Assumes nothing.
use Prim.Native.Nat.{ℕ}
use mathlib.Core.Bool.{true}
use mathlib.Core.List.{List}
use mathlib.Core.Path.{◌≡◌}
use lib.ListN.{length}
use Rattle.operation.specs.Limits.{Limits}
use Rattle.hub.specs.Shape.{shaped}
use Rattle.hub.specs.Fetching.{fetch_known, fetch_of, fetched_known, fetched_into}
use Rattle.hub.specs.declared.Hub.{Hub}

pub fetch_known_lem :
    (l : Limits) (h : Hub) (n : ℕ) (buf : List ℕ) → shaped l h ≡ true →
    (fetch_known l h n (length buf) ≡ fetch_of l h n (length buf)) × (fetched_known l h n buf ≡ fetched_into l h n buf)
unfolding fetch_of fetched_into
fetch_known_lem l h n buf e = (rw e, rw e)
