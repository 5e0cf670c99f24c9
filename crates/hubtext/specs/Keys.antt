-- The keys of the hub's text, in ASCII. Assumes nothing: these are definitions.
use Rattle.std.specs.Prelude.{ℕ, List, [], ◌∷◌}

-- `form=`, `machines=`, `cells=`, `cell=`, `next=`, `rec=`
abbrev pub form= : List ℕ
form= = 102 ∷ 111 ∷ 114 ∷ 109 ∷ 61 ∷ []

abbrev pub machines= : List ℕ
machines= = 109 ∷ 97 ∷ 99 ∷ 104 ∷ 105 ∷ 110 ∷ 101 ∷ 115 ∷ 61 ∷ []

abbrev pub cells= : List ℕ
cells= = 99 ∷ 101 ∷ 108 ∷ 108 ∷ 115 ∷ 61 ∷ []

abbrev pub cell= : List ℕ
cell= = 99 ∷ 101 ∷ 108 ∷ 108 ∷ 61 ∷ []

abbrev pub next= : List ℕ
next= = 110 ∷ 101 ∷ 120 ∷ 116 ∷ 61 ∷ []

abbrev pub rec= : List ℕ
rec= = 114 ∷ 101 ∷ 99 ∷ 61 ∷ []

abbrev pub comma : ℕ
comma = 44
