-- A number as decimal text, with no leading zero. Assumes nothing: these are definitions.
use Rattle.std.specs.Prelude.{ℕ, zero, suc, ◌+◌, ◌/◌, ◌%◌, List, [], ◌∷◌, ◌++◌, ltb, if◌then◌else◌}

-- at most k digits of n, the most significant first: a number below 10 is one digit; any other is the digits of n / 10,
-- and then its last
unfoldable pub digits_in : ℕ → ℕ → List ℕ
digits_in zero n = []
digits_in (suc k) n = if ltb n 10 then (48 + n) ∷ [] else digits_in k (n / 10) ++ ((48 + n % 10) ∷ [])

-- n + 1 places are always enough
unfoldable pub decimal : ℕ → List ℕ
decimal n = digits_in (suc n) n
