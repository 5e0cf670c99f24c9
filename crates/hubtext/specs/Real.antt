-- The hubs that there are: arrays of their lengths, and bytes. Assumes nothing: these are definitions.
use Rattle.std.specs.Prelude.{ℕ, ◌<◌, ◌≡◌, length, get_or}
use Rattle.operation.specs.Limits.{Limits}
use Rattle.state.specs.Numbers.{most_machines}
use Rattle.hub.specs.Ring.{most_kept, no_record}
use Rattle.hub.specs.declared.Hub.{Hub}

-- what every hub of the code is known to be: a list has any length, and an array its own
pub record Real (l : Limits) (h : Hub) : Type 0 where
  pub cells_long : length h.cells ≡ l.cells
  pub next_long : length h.next ≡ most_machines
  pub records_long : length h.records ≡ most_kept
  pub bytes_long : (i : ℕ) → i < most_kept → length (get_or h.records i no_record).op.bytes ≡ l.bytes
  pub bytes_small : (i j : ℕ) → i < most_kept → get_or (get_or h.records i no_record).op.bytes j 0 < 256
