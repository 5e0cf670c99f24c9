-- Elements over the start of a buffer. Assumes nothing: this is a definition.
use Rattle.std.specs.Prelude.{ℕ, List, ◌++◌, take, drop}

-- the first n of s from the start of d, whose later places stay
abbrev pub over : {A : Type 0} → ℕ → List A → List A → List A
over n s d = take n s ++ drop n d
