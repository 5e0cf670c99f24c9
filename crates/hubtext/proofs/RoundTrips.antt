-- The hub's text, written and read back: each gives the other again, and a wrong text has the line that is told.
-- Assumes nothing.
use Prim.Native.Nat.{ℕ, ◌≤◌, ◌<◌}
use native.Mathlib.Omega.{arith}
use mathlib.Core.Bool.{true}
use mathlib.Core.List.{List, [], ◌∷◌}
use mathlib.Core.Path.{◌≡◌, sym, ap, subst, ◌∙◌}
use borrow.Author.Tests.{le-leb}
use Rattle.operation.specs.Limits.{limits}
use Rattle.operation.specs.FirstBytes.{kind_of, atomic_of}
use Rattle.operation.specs.Tree.{op_size}
use Rattle.operation.specs.Reading.{well_formed, operation_of, read_op, read_body, read_parts}
use Rattle.lines.specs.Same.{SameLines}
use Rattle.lines.specs.Texts.{values, wrong_at, text_of, read, Finished}
use Rattle.lines.proofs.Exact.{Lawful, read_good, good_read, wrong_read}
use Rattle.hub.specs.Shape.{shaped}
use Rattle.hub.specs.declared.Hub.{Hub}
use Rattle.hub.proofs.GoodShape.{good}
use Rattle.hubtext.specs.Values.{Value, numbers_of, entries_of}
use Rattle.hubtext.specs.Writing.{values_of}
use Rattle.hubtext.specs.Reading.{hub_form, hub_of}
use Rattle.hubtext.specs.Real.{Real}
use Rattle.hubtext.specs.Saving.{hub_text}
use Rattle.hubtext.proofs.Finishing.{lawful}
use Rattle.hubtext.proofs.Complete.{finished_whole}
use Rattle.hubtext.proofs.MadeHubs.{made_shaped}
use Rattle.hubtext.proofs.MadeValues.{made_values}
use Rattle.hubtext.proofs.MadeReal.{made_real}
use Rattle.hubtext.proofs.HubValues.{hub_finished, hub_again}

-- the empty ATOMIC is an operation wherever there may be cells
free_formed : (w : ℕ) → w ≤ 64 → well_formed limits w (16 ∷ 0 ∷ []) ≡ true
unfolding well_formed operation_of op_size read_parts read_body read_op kind_of atomic_of
free_formed w h = rw (le-leb w 64 h)

pub hub_lawful : Lawful (hub_form limits)
hub_lawful = lawful limits (omega arith) free_formed (omega arith)

-- reading what was written gives the same hub
pub read_written :
    (h : Hub) → shaped limits h ≡ true → Real limits h →
    (read (hub_form limits) (hub_text limits h) ≡ values (values_of h)) × (hub_of limits (values_of h) ≡ h)
read_written h s r =
    let g = good limits h s in
    (read_good (hub_form limits) hub_lawful (values_of h) (hub_finished limits h g r), hub_again limits h g r)

-- the hub of a good text's values is in shape, and has them
pub good_values :
    (vs : List Value) → Finished (hub_form limits) vs →
    (shaped limits (hub_of limits vs) ≡ true) × (Real limits (hub_of limits vs) × (values_of (hub_of limits vs) ≡ vs))
unfolding hub_of
good_values vs a =
    let w = finished_whole limits vs a in (
      made_shaped limits (numbers_of vs) (entries_of vs) w.0,
      (
        made_real limits (numbers_of vs) (entries_of vs) w.0,
        made_values limits (numbers_of vs) (entries_of vs) w.0 ∙ sym w.1,
      ),
    )

-- a text that is read gives, written, the same bytes
pub written_read :
    (t : List ℕ) (vs : List Value) → read (hub_form limits) t ≡ values vs →
    (shaped limits (hub_of limits vs) ≡ true) × (hub_text limits (hub_of limits vs) ≡ t)
written_read t vs e =
    let r = good_read (hub_form limits) hub_lawful t vs e in
    let g = good_values vs r.0 in
    (g.0, ap (text_of (hub_form limits)) g.1.1 ∙ sym r.1)

-- where line n is told, no hub's text has the same first n lines
pub none_has :
    (t : List ℕ) (n : ℕ) → read (hub_form limits) t ≡ wrong_at n → (h : Hub) → shaped limits h ≡ true →
    Real limits h → SameLines n t (hub_text limits h) → ⊥
none_has t n e h s r =
    (wrong_read (hub_form limits) hub_lawful t n e).shared_by_none (values_of h)
    (hub_finished limits h (good limits h s) r)

-- and for every smaller number some hub's text has
pub some_has :
    (t : List ℕ) (n : ℕ) → read (hub_form limits) t ≡ wrong_at n → (k : ℕ) → k < n →
    (h : Hub) × ((shaped limits h ≡ true) × (Real limits h × SameLines k t (hub_text limits h)))
some_has t n e k lt =
    let (vs, (a, same)) = (wrong_read (hub_form limits) hub_lawful t n e).shared_before k lt in
    let g = good_values vs a in (
      hub_of limits vs,
      (
        g.0,
        (g.1.0, subst (λ (x : List Value). SameLines k t (text_of (hub_form limits) x)) (sym g.1.1) same),
      ),
    )
