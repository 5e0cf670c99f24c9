-- Laws of what running keeps: the number of cells, their limit, and every cell past the number of cells. Assumes nothing.
use Prim.Native.Nat.{ℕ, zero, suc, ◌+◌, ◌-◌, ◌≤◌, ◌<◌}
use native.Mathlib.Omega.{arith}
use mathlib.Core.Bool.{true, ◌&&◌}
use mathlib.Core.List.{List, [], ◌∷◌}
use mathlib.Core.Logic.{◌⊎◌, inl, inr, ⊎_elim}
use mathlib.Core.Option.{Option, some, none, bind, or_else}
use mathlib.Core.Path.{◌≡◌, refl, ◌∙◌}
use lib.Dec.{leb}
use lib.ListN.{length, set, length-set}
use lib.Seq.{get_or-set_other}
use borrow.Author.Tests.{leb-true}
use Rattle.basics.proofs.Choice.{by_cases, and_both}
use Rattle.operation.specs.Limits.{Limits}
use Rattle.operation.specs.Tree.{Op, Ops}
use Rattle.operation.specs.Reading.{read_op, operation_of}
use Rattle.operation.specs.declared.Plain.{Plain}
use Rattle.operation.specs.declared.Plain.TheVariants.{Need, Put, Draw, Move}
use Rattle.operation.proofs.Reading.{none_some, ByKinds, reads_op}
use Rattle.operation.proofs.WellFormed.{formed}
use Rattle.effect.specs.Running.{cell, step, run, run_all, outcome, came}
use Rattle.effect.specs.Replaying.{after, replay}
use Rattle.effect.specs.Walking.{Inside}
use Rattle.effect.proofs.Walking.{kind_inside}

-- from the cells c to the cells d
pub record Kept (l : Limits) (width : ℕ) (c d : List ℕ) : Type 0 where
  pub count : length d ≡ length c
  pub most : ((i : ℕ) → cell c i ≤ l.held) → (i : ℕ) → cell d i ≤ l.held
  pub past : (i : ℕ) → width ≤ i → cell d i ≡ cell c i

-- a cell after a store is what was stored, or as it was
cell_set : (c : List ℕ) (k v i : ℕ) → (cell (set c k v) i ≡ v) ⊎ (cell (set c k v) i ≡ cell c i)
cell_set [] k v i = inr refl
cell_set (x ∷ c) zero v zero = inl refl
cell_set (x ∷ c) zero v (suc i) = inr refl
cell_set (x ∷ c) (suc k) v zero = inr refl
cell_set (x ∷ c) (suc k) v (suc i) = cell_set c k v i

module _ (l : Limits) (width : ℕ) where
  pub kept_same : (c : List ℕ) → Kept l width c c
  kept_same c = record { count = refl; most = λ h. h; past = λ i h. refl }

  pub kept_both : (c d e : List ℕ) → Kept l width c d → Kept l width d e → Kept l width c e
  kept_both c d e f g = record {
    count = g.count ∙ f.count;
    most = λ h. g.most (f.most h);
    past = λ i h. g.past i h ∙ f.past i h;
  }

  -- a store of no more than the limit, or of no more than the cell held
  kept_set :
      (c : List ℕ) (k v : ℕ) → k < width → (((i : ℕ) → cell c i ≤ l.held) → v ≤ l.held) →
      Kept l width c (set c k v)
  kept_set c k v inside small = record {
    count = length-set c k v;
    most = λ h i.
        let s = small h in
        let o = h i in
        ⊎_elim (λ e. omega (arith, e)) (λ e. omega (arith, e)) (cell_set c k v i);
    past = λ i h. get_or-set_other c k i v 0 (omega arith);
  }

  kept_less : (c : List ℕ) (k a : ℕ) → k < width → Kept l width c (set c k (cell c k - a))
  kept_less c k a inside = kept_set c k (cell c k - a) inside (λ h. omega (arith, h k))

  kept_more : (c : List ℕ) (k v : ℕ) → k < width → leb v l.held ≡ true → Kept l width c (set c k v)
  kept_more c k v inside t = kept_set c k v inside (λ h. leb-true v l.held t)

  step_keeps : (p : Plain) → Inside width p → (c d : List ℕ) → step l p c ≡ some d → Kept l width c d
  unfolding step
  step_keeps (Need k a) inside c d =
      by_cases (λ o. o ≡ some d → Kept l width c d) (leb a (cell c k))
      (λ t e. let v : d ≡ c = cc in rw v (kept_same c))
      (λ t e. none_some none d refl e)
  step_keeps (Put k a) inside c d =
      by_cases (λ o. o ≡ some d → Kept l width c d) (leb (cell c k + a) l.held)
      (λ t e. let v : d ≡ set c k (cell c k + a) = cc in rw v (kept_more c k (cell c k + a) inside t))
      (λ t e. none_some none d refl e)
  step_keeps (Draw k a) inside c d =
      by_cases (λ o. o ≡ some d → Kept l width c d) (leb a (cell c k))
      (λ t e. let v : d ≡ set c k (cell c k - a) = cc in rw v (kept_less c k a inside))
      (λ t e. none_some none d refl e)
  step_keeps (Move k j a) inside c d =
      by_cases (λ o. o ≡ some d → Kept l width c d) (leb a (cell c k) && leb (cell c j + a) l.held)
      (λ t e.
      let v : d ≡ set (set c k (cell c k - a)) j (cell c j + a) = cc in
      rw v
      (kept_both c (set c k (cell c k - a)) (set (set c k (cell c k - a)) j (cell c j + a))
      (kept_less c k a inside.0)
      (kept_more (set c k (cell c k - a)) j (cell c j + a) inside.1 (and_both (leb a (cell c k)) _ t).1)))
      (λ t e. none_some none d refl e)

  -- what each step keeps, running keeps
  record Keeps (d : ℕ) (s : List ℕ) (p : Op) : Type 0 where
    keeps : (c e : List ℕ) → run l p c ≡ some e → Kept l width c e

  record AllKeep (d n : ℕ) (s : List ℕ) (ps : Ops) : Type 0 where
    keeps : (c e : List ℕ) → run_all l ps c ≡ some e → Kept l width c e

  first_that_does :
      (p q : Op) (c e : List ℕ) →
      ((d : List ℕ) → run l p c ≡ some d → Kept l width c d) →
      ((d : List ℕ) → run l q c ≡ some d → Kept l width c d) →
      (o : Option (List ℕ)) → run l p c ≡ o → or_else o (run l q c) ≡ some e → Kept l width c e
  unfolding or_else
  first_that_does p q c e f g (some x) i r = f e (i ∙ r)
  first_that_does p q c e f g none i r = g e r

  one_after_another :
      (p : Op) (ps : Ops) (c e : List ℕ) →
      ((d : List ℕ) → run l p c ≡ some d → Kept l width c d) →
      ((d : List ℕ) → run_all l ps d ≡ some e → Kept l width d e) →
      (o : Option (List ℕ)) → run l p c ≡ o → bind o (λ d. run_all l ps d) ≡ some e → Kept l width c e
  unfolding bind
  one_after_another p ps c e f g (some x) i r = kept_both c x e (f x i) (g x r)
  one_after_another p ps c e f g none i r = none_some none e refl r

  keep : ByKinds l width Keeps AllKeep
  unfolding run
  keep = record {
    on_plain = λ d s p h. record { keeps = step_keeps p (kind_inside l width width s p (omega arith) h) };
    on_atomic = λ d n s ps h f. record { keeps = f.keeps };
    on_orelse =
        λ d s p q h f g. record
        { keeps = λ c e. first_that_does p q c e (f.keeps c) (g.keeps c) (run l p c) refl };
    on_end = λ d s. record { keeps = λ c e r. let v : e ≡ c = cc in rw v (kept_same c) };
    on_then =
        λ d n s p ps f g. record
        { keeps = λ c e. one_after_another p ps c e (f.keeps c) (λ x. g.keeps x e) (run l p c) refl };
  }

  pub run_keeps :
      (depth : ℕ) (s : List ℕ) (p : Op) → read_op l width depth s ≡ some p → (c d : List ℕ) → run l p c ≡ some d →
      Kept l width c d
  run_keeps depth s p e =
      (reads_op l width Keeps AllKeep keep depth s p e).keeps

  -- and so do bytes that are run, and a list of them
  pub outcome_keeps : (s c d : List ℕ) → outcome l width s c ≡ some d → Kept l width c d
  unfolding outcome bind
  outcome_keeps s c d = go (operation_of l width s) refl
    where
      go : (o : Option Op) → operation_of l width s ≡ o → bind o (λ p. run l p c) ≡ some d → Kept l width c d
      go (some p) i = run_keeps l.depth s p (formed l width s p i).is_read c d
      go none i = λ e. none_some none d refl e

  -- a failing operation changes no cell
  pub failing_keeps_all : (s c : List ℕ) → outcome l width s c ≡ none → after l width s c ≡ c
  unfolding after
  failing_keeps_all s c e = rw (e, after)

  pub after_keeps : (s c : List ℕ) → Kept l width c (after l width s c)
  unfolding after
  after_keeps s c = go (outcome l width s c) (outcome_keeps s c)
    where
      go : (o : Option (List ℕ)) → ((d : List ℕ) → o ≡ some d → Kept l width c d) → Kept l width c (came c o).cells
      go (some d) f = f d refl
      go none f = kept_same c

  pub replay_keeps : (ss : List (List ℕ)) (c : List ℕ) → Kept l width c (replay l width ss c)
  unfolding replay
  replay_keeps [] c = kept_same c
  replay_keeps (s ∷ ss) c =
      kept_both c (after l width s c) (replay l width ss (after l width s c)) (after_keeps s c)
      (replay_keeps ss (after l width s c))
