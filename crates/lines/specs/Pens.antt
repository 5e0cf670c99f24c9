-- What a pen lays. Assumes nothing: these are definitions.
use Rattle.std.specs.Prelude.{List, ℕ, ◌≡◌}
use Rattle.lines.specs.Placing.{Puts}
use Rattle.lines.specs.declared.put.Pen.{Pen}

-- the pen is in the same buffer, and has laid the piece x from where it was to where it is
pub record Lays (before after : Pen) (x : List ℕ) : Type 0 where
  pub same_buffer : after.buf.ghost_name ≡ before.buf.ghost_name
  pub puts : Puts before.buf.now after.buf.now before.at after.at x
