-- Numbers below a length, and zeros past it. Assumes nothing: these are definitions.
use Rattle.std.specs.Prelude.{ℕ, Bool, true, List, ltb, leb, eqb, length, get_or, if◌then◌else◌}
use Rattle.basics.specs.Every.{every}

-- the number at place i is at most `most` where it is one of the first n, and else 0
abbrev pub is_count : ℕ → ℕ → ℕ → ℕ → Bool
is_count n most i x = if ltb i n then leb x most else eqb x 0

abbrev pub count_at : List ℕ → ℕ → ℕ → ℕ → Bool
count_at xs n most i = is_count n most i (get_or xs i 0)

unfoldable pub counts : List ℕ → ℕ → ℕ → Bool
counts xs n most = every (length xs) (count_at xs n most)

-- every place from the n-th on is 0
abbrev pub zero_at : List ℕ → ℕ → ℕ → Bool
zero_at xs n i = if ltb i n then true else eqb (get_or xs i 0) 0

unfoldable pub zeros_from : List ℕ → ℕ → Bool
zeros_from xs n = every (length xs) (zero_at xs n)
