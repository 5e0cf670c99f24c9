-- The paper's numbers of machines, sales and decisions. Assumes nothing: these are definitions.
use Rattle.std.specs.Prelude.{ℕ}

abbrev pub most_machines : ℕ
most_machines = 40

-- how many operations a machine issues at most, and so how many are decided at most
abbrev pub most_issued : ℕ
most_issued = 1_000_000_000

abbrev pub most_decided : ℕ
most_decided = 40_000_000_000
