-- How many notes a machine has. Assumes nothing: these are definitions.
use Rattle.std.specs.Prelude.{ℕ}

abbrev pub note_count : ℕ
note_count = 4
