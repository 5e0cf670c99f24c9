-- Whether a run succeeded tells what came of it. Assumes nothing.
use Prim.Native.Nat.{ℕ}
use mathlib.Core.Bool.{true, false, true≢false, false≢true}
use mathlib.Core.List.{List}
use mathlib.Core.Option.{Option, some, none}
use mathlib.Core.Path.{◌≡◌, refl, sym, ap, ◌∙◌}
use Rattle.effect.specs.Running.{Came, came}

module _ (c : List ℕ) (q : Came) where
  pub came_some : (o : Option (List ℕ)) → q ≡ came c o → q.ok ≡ true → o ≡ some q.cells
  came_some (some d) e h = rw e
  came_some none e h = absurd (true≢false (sym h ∙ ap (λ (x : Came). x.ok) e))

  pub came_none : (o : Option (List ℕ)) → q ≡ came c o → q.ok ≡ false → (o ≡ none) × (q.cells ≡ c)
  came_none (some d) e h = absurd (false≢true (sym h ∙ ap (λ (x : Came). x.ok) e))
  came_none none e h = (refl, ap (λ (x : Came). x.cells) e)
