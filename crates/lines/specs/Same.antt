-- When two texts have the same first lines. Assumes nothing: these are definitions.
use Rattle.std.specs.Prelude.{ℕ, zero, suc, List, [], ◌∷◌, ◌++◌, ◌≡◌}
use Rattle.lines.specs.Fields.{LF}

-- no byte of the list is LF
unfoldable pub NoLF : List ℕ → Type 0
NoLF [] = Unit {0}
NoLF (b ∷ bs) = (b ≡ LF → ⊥) × NoLF bs

-- p is k whole lines, each ended by LF
pub data Whole : ℕ → List ℕ → Type 0 where
  none : Whole zero []
  more : {k : ℕ} {p : List ℕ} (l : List ℕ) → NoLF l → Whole k p → Whole (suc k) (l ++ (LF ∷ p))

-- t and u have the same first k lines: both begin with the same k whole lines. A last line without LF is the same as no
-- line, and a text with fewer than k lines has not k
pub record SameLines (k : ℕ) (t u : List ℕ) : Type 0 where
  pub lines : List ℕ
  pub whole : Whole k lines
  pub after : List ℕ
  pub begins : t ≡ lines ++ after
  pub after' : List ℕ
  pub begins' : u ≡ lines ++ after'
