-- Laws of being an operation: which tests decide it, and what it is where they hold. Assumes nothing.
use Prim.Native.Nat.{ℕ, zero, suc, ◌≤◌, ◌<◌}
use mathlib.Core.Path.{◌≡◌, refl, ◌∙◌}
use mathlib.Core.Bool.{Bool, true, false, ◌&&◌, false≢true}
use mathlib.Core.List.{List, []}
use mathlib.Core.Option.{Option, some, none}
use lib.Dec.{leb, eqb}
use lib.ListN.{length}
use borrow.Author.Tests.{le-leb, lt-leb, leb-true, eqb-true}
use Rattle.std.specs.Prelude.{if◌then◌else◌, Some}
use Rattle.std.specs.Option.{option_eq}
use Rattle.basics.proofs.Choice.{and_both, by_cases}
use Rattle.operation.specs.Limits.{Limits}
use Rattle.operation.specs.FirstBytes.{kind_of}
use Rattle.operation.specs.Tree.{Op, op_size}
use Rattle.operation.specs.Reading.{read_body, read_op, whole, operation_of, is_some, well_formed}
use Rattle.operation.specs.Sizes.{size_of}
use Rattle.operation.proofs.Reading.{none_some}

module _ (l : Limits) (width : ℕ) (s : List ℕ) where
  pub many_cells : l.cells < width → false ≡ well_formed l width s
  unfolding well_formed operation_of
  many_cells h = simp (lt-leb _ _ h)

  module _ (cells : width ≤ l.cells) where
    pub many_bytes : l.bytes < length s → false ≡ well_formed l width s
    unfolding well_formed operation_of
    many_bytes h = simp (le-leb _ _ cells, lt-leb _ _ h)

    module _ (bytes : length s ≤ l.bytes) where
      within : operation_of l width s ≡ whole (length s) (read_op l width l.depth s)
      unfolding operation_of
      within = simp (le-leb _ _ cells, le-leb _ _ bytes)

      pub by_size :
          option_eq eqb (size_of (read_op l width l.depth s)) (Some (length s)) ≡ well_formed l width s
      unfolding well_formed
      by_size = rw within (go (read_op l width l.depth s))
        where
          tested : (p : Op) (t : Bool) → t ≡ is_some (if t then some p else none)
          tested p true = refl
          tested p false = refl

          go : (o : Option Op) → option_eq eqb (size_of o) (Some (length s)) ≡ is_some (whole (length s) o)
          go (some p) = tested p (eqb (op_size p) (length s))
          go none = refl

-- one for each way out of the code that decides it
pub ruleset well_formed_laws = (many_cells, many_bytes, by_size)

-- what is known of bytes that are an operation
pub record Formed (l : Limits) (width : ℕ) (s : List ℕ) (p : Op) : Type 0 where
  pub cells : width ≤ l.cells
  pub bytes : length s ≤ l.bytes
  pub is_read : read_op l width l.depth s ≡ some p
  pub uses_all : op_size p ≡ length s

module _ (l : Limits) (width : ℕ) (s : List ℕ) where
  pub formed : (p : Op) → operation_of l width s ≡ some p → Formed l width s p
  unfolding operation_of
  formed p =
      by_cases (λ o. o ≡ some p → Formed l width s p) (leb width l.cells && leb (length s) l.bytes)
      (λ t. inside t (read_op l width l.depth s) refl) (λ _ e. none_some none p refl e)
    where
      inside :
          leb width l.cells && leb (length s) l.bytes ≡ true → (o : Option Op) →
          read_op l width l.depth s ≡ o → whole (length s) o ≡ some p → Formed l width s p
      inside t (some q) i =
          by_cases (λ o. o ≡ some p → Formed l width s p) (eqb (op_size q) (length s))
          (λ u e.
          let v : q ≡ p = cc in
          record {
            cells =
                leb-true width l.cells (and_both (leb width l.cells) (leb (length s) l.bytes) t).0;
            bytes =
                leb-true (length s) l.bytes (and_both (leb width l.cells) (leb (length s) l.bytes) t).1;
            is_read = i ∙ e;
            uses_all = rw v at (eqb-true (op_size q) (length s) u);
          })
          (λ _ e. none_some none p refl e)
      inside t none i = λ e. none_some none p refl e

  -- bytes are an operation exactly where there is one that they are
  pub op_of : well_formed l width s ≡ true → (p : Op) × (operation_of l width s ≡ some p)
  unfolding well_formed
  op_of h = go (operation_of l width s) refl h
    where
      go :
          (o : Option Op) → operation_of l width s ≡ o → is_some o ≡ true →
          (p : Op) × (operation_of l width s ≡ some p)
      go (some p) e h = (p, e)
      go none e h = absurd (false≢true h)

  pub is_op : (p : Op) → operation_of l width s ≡ some p → well_formed l width s ≡ true
  unfolding well_formed
  is_op p e = rw e

-- no bytes are no operation
pub no_bytes : (l : Limits) (width : ℕ) → well_formed l width [] ≡ true → ⊥
unfolding read_op read_body kind_of
no_bytes l width h =
    let p = op_of l width [] h in
    let f = formed l width [] p.0 p.1 in
    go l.depth f.is_read
  where
    go : (d : ℕ) {p : Op} → read_op l width d [] ≡ some p → ⊥
    go zero e = none_some none _ refl e
    go (suc d) e = none_some none _ refl e
