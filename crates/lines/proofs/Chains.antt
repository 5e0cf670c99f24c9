-- Values that are all of a text are a chain, and a chain that is all is finished. Assumes nothing.
use mathlib.Core.Bool.{true}
use mathlib.Core.List.{List, [], ◌∷◌, ◌++◌, append_assoc, append-nil}
use mathlib.Core.Path.{◌≡◌, sym, ap, subst, ◌∙◌}
use Rattle.lines.specs.Texts.{Form, Chain, start, step, After, all, also, Finished}

module _ {A : Type 0} (f : Form A) where
  pub after_chain :
      (vs ws : List A) → Chain f vs → After f vs ws → Chain f (vs ++ ws) × (f.done (vs ++ ws) ≡ true)
  after_chain vs _ c (all d) =
      (subst (λ (x : List A). Chain f x) (sym (append-nil vs)) c, ap f.done (append-nil vs) ∙ d)
  after_chain vs _ c (also {ws = ws} v d r a) =
      let i = after_chain (vs ++ (v ∷ [])) ws (step v c d r) a in
      let e = append_assoc vs (v ∷ []) ws in
      (subst (λ (x : List A). Chain f x) e i.0, ap f.done (sym e) ∙ i.1)

  pub chain_after : (vs ws : List A) → Chain f vs → After f vs ws → Finished f (vs ++ ws)
  chain_after _ ws start a = a
  chain_after _ ws (step {vs = vs} v c d r) a =
      subst (λ (x : List A). Finished f x) (sym (append_assoc vs (v ∷ []) ws))
      (chain_after vs (v ∷ ws) c (also v d r a))
