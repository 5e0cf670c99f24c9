-- What is known of an own record that is as issued. Assumes nothing.
use Prim.Native.Nat.{ℕ, ◌≤◌}
use mathlib.Core.Bool.{true}
use mathlib.Core.List.{List}
use mathlib.Core.Path.{◌≡◌}
use lib.Dec.{ltb}
use borrow.Author.Tests.{ltb-true}
use Rattle.basics.proofs.Choice.{and_both}
use Rattle.machine.specs.Recording.{as_issued}
use Rattle.machine.specs.declared.Machine.{Machine}

-- an own record that is as issued is the front of a queue
pub as_issued_waits : (m : Machine) (number : ℕ) (op : List ℕ) → as_issued m number op ≡ true → 1 ≤ m.waiting
unfolding as_issued
as_issued_waits m number op h = ltb-true 0 m.waiting (and_both (ltb 0 m.waiting) _ h).0
