-- The paper's sizes and limits of operations and cells: the one place that has their numbers.
-- Assumes nothing: these are definitions.
use Rattle.std.specs.Prelude.{ℕ}

-- at most so many cells, each holding at most so much; an operation of at most so many bytes, so deep,
-- with amounts of at most so much and at most so many parts to an ATOMIC
pub record Limits : Type 0 where
  pub cells : ℕ
  pub held : ℕ
  pub bytes : ℕ
  pub depth : ℕ
  pub amount : ℕ
  pub parts : ℕ

abbrev pub limits : Limits
limits = record { cells = 64; held = 999_999; bytes = 48; depth = 4; amount = 10_000; parts = 15 }
