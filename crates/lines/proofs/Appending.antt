-- The text of one list of values after another. Assumes nothing.
use mathlib.Core.List.{List, [], ◌∷◌, ◌++◌, append_assoc}
use mathlib.Core.Path.{◌≡◌, refl, sym}
use Rattle.lines.specs.Fields.{LF}
use Rattle.lines.specs.Texts.{Form, text_of}

module _ {A : Type 0} (f : Form A) where
  pub text_append : (vs ws : List A) → text_of f (vs ++ ws) ≡ text_of f vs ++ text_of f ws
  unfolding text_of
  text_append [] ws = refl
  text_append (v ∷ vs) ws = rw (text_append vs ws) (sym (append_assoc (f.line v) (LF ∷ text_of f vs) (text_of f ws)))

  pub text_one : (v : A) → text_of f (v ∷ []) ≡ f.line v ++ (LF ∷ [])
  unfolding text_of
  text_one v = refl

  pub text_empty : text_of f [] ≡ []
  unfolding text_of
  text_empty = refl
