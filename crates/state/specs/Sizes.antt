-- Sizes in range. Assumes nothing: these are definitions.
use Rattle.std.specs.Prelude.{ℕ, Bool, ◌&&◌, leb}
use Rattle.operation.specs.Limits.{Limits}
use Rattle.state.specs.Numbers.{most_machines}

unfoldable pub sizes_good : Limits → ℕ → ℕ → Bool
sizes_good l machines width =
    leb 1 machines && (leb machines most_machines && (leb 1 width && leb width l.cells))
