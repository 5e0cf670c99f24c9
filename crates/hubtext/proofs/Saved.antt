-- Laws of writing a hub in shape, by each way out: the answer, and the lent buffer. Assumes nothing.
use Prim.Native.Nat.{ℕ, ◌≤◌, ◌<◌}
use mathlib.Core.Bool.{true}
use mathlib.Core.List.{List}
use mathlib.Core.Path.{◌≡◌}
use lib.ListN.{length}
use borrow.Author.Tests.{lt-ltb, le-ltb, le-leb, lt-leb}
use Rattle.basics.specs.Over.{over}
use Rattle.basics.specs.declared.Refusal.TheVariants.{BufferTooShort}
use Rattle.operation.specs.Limits.{Limits}
use Rattle.hub.specs.Shape.{shaped}
use Rattle.hub.specs.declared.Hub.{Hub}
use Rattle.hubtext.specs.Saving.{hub_text, not_written, write_of, written_into}

module _ (l : Limits) (h : Hub) (buf : List ℕ) (in-shape : shaped l h ≡ true) (len : ℕ) (is : len ≡ length (hub_text l h)) where
  pub write_short :
      length buf < len → (not_written BufferTooShort ≡ write_of l h (length buf)) × (buf ≡ written_into l h buf)
  unfolding write_of written_into
  write_short k = (
    simp (in-shape, lt-ltb (length buf) (length (hub_text l h)) (rw is at k)),
    simp (in-shape, lt-leb (length (hub_text l h)) (length buf) (rw is at k)),
  )

  pub write_done :
      (after : List ℕ) → len ≤ length buf → after ≡ over (length (hub_text l h)) (hub_text l h) buf →
      (record { answer = 0; len = len } ≡ write_of l h (length buf)) × (after ≡ written_into l h buf)
  unfolding write_of written_into
  write_done after k e = (
    rw is (simp (in-shape, le-ltb (length buf) (length (hub_text l h)) (rw is at k))),
    rw e (simp (in-shape, le-leb (length (hub_text l h)) (length buf) (rw is at k))),
  )
