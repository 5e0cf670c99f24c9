-- What the lines of the hub's text hold. Assumes nothing: these are definitions.
use Rattle.std.specs.Prelude.{ℕ, ◌+◌, List, [], ◌∷◌, ◌++◌, get_or, take, drop}
use Rattle.lines.specs.Decimals.{decimal}
use Rattle.lines.specs.Hex.{hex_of}
use Rattle.hub.specs.History.{Decision}
use Rattle.hubtext.specs.Keys.{rec=, comma}

-- a line has a key and a number, or a kept record: its machine and operation
pub data Value : Type 0 where
  number : List ℕ → ℕ → Value
  entry : Decision → Value

-- the line of a value, without its LF
abbrev pub line_of : Value → List ℕ
line_of (number key n) = key ++ decimal n
line_of (entry e) = rec= ++ (decimal e.machine ++ (comma ∷ hex_of e.op))

-- the numbers and the records among values
unfoldable pub numbers_of : List Value → List ℕ
numbers_of [] = []
numbers_of (number key n ∷ vs) = n ∷ numbers_of vs
numbers_of (entry e ∷ vs) = numbers_of vs

unfoldable pub entries_of : List Value → List Decision
entries_of [] = []
entries_of (number key n ∷ vs) = entries_of vs
entries_of (entry e ∷ vs) = e ∷ entries_of vs

-- what the numbers of a text say: form, machines, cells; as many counts as cells; then the nexts
abbrev pub machines_in : List ℕ → ℕ
machines_in ns = get_or ns 1 0

abbrev pub width_in : List ℕ → ℕ
width_in ns = get_or ns 2 0

abbrev pub cells_in : List ℕ → List ℕ
cells_in ns = take (width_in ns) (drop 3 ns)

abbrev pub nexts_in : List ℕ → List ℕ
nexts_in ns = drop (3 + width_in ns) ns
