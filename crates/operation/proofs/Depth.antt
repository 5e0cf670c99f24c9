-- Laws of depth: what is read at a depth is no deeper, and is read at every depth that it fits. Assumes nothing.
use Prim.Native.Nat.{ℕ, zero, suc, ◌+◌, ◌≤◌, max, zero-le}
use native.Mathlib.Omega.{arith}
use mathlib.Core.Path.{◌≡◌, refl}
use mathlib.Core.List.{List}
use mathlib.Core.Option.{some, bind}
use Rattle.operation.specs.Limits.{Limits}
use Rattle.operation.specs.FirstBytes.{kind_of}
use Rattle.operation.specs.Tree.{Op, Ops, plain, atomic, orelse, depth_of, deepest}
use Rattle.operation.specs.Reading.{read_parts, read_two, read_body, read_op}
use Rattle.operation.proofs.Reading.{ByKinds, reads_op}

module _ (l : Limits) (width : ℕ) where
  -- at most as deep as it was read, and read at each depth from its own
  record At (d : ℕ) (s : List ℕ) (p : Op) : Type 0 where
    within : depth_of p ≤ d
    reads : (k : ℕ) → depth_of p ≤ k → read_op l width k s ≡ some p

  record AllAt (d n : ℕ) (s : List ℕ) (ps : Ops) : Type 0 where
    within : deepest ps ≤ d
    reads : (k : ℕ) → deepest ps ≤ k → read_parts (read_op l width k) n s ≡ some ps

  -- one level above what its parts need
  above :
      (s : List ℕ) (p : Op) (m : ℕ) →
      ((k : ℕ) → m ≤ k → read_body (read_op l width k) (kind_of l width s) s ≡ some p) →
      (k : ℕ) → 1 + m ≤ k → read_op l width k s ≡ some p
  unfolding read_op
  above s p m parts zero f = absurd (omega arith)
  above s p m parts (suc k) f = parts k (omega arith)

  at_own_depth : ByKinds l width At AllAt
  unfolding depth_of read_body read_two read_parts bind
  at_own_depth = record {
    on_plain = λ d s p h. record { within = omega arith; reads = above s (plain p) 0 (λ k f. rw (← h)) };
    on_atomic = λ d n s ps h r. record {
      within = omega (arith, r.within);
      reads = above s (atomic ps) (deepest ps) (λ k f. rw (← h, r.reads k f));
    };
    on_orelse = λ d s p q h a b. record {
      within = omega (arith, a.within, b.within);
      reads =
          above s (orelse p q) (max (depth_of p) (depth_of q))
          (λ k f. rw (← h, a.reads k (omega arith), b.reads k (omega arith)));
    };
    on_end = λ d s. record { within = zero-le; reads = λ k f. refl };
    on_then = λ d n s p ps a b. record {
      within = omega (arith, a.within, b.within);
      reads = λ k f. rw (a.reads k (omega arith), b.reads k (omega arith));
    };
  }

  at_depth : (d : ℕ) (s : List ℕ) (p : Op) → read_op l width d s ≡ some p → At d s p
  at_depth = reads_op l width At AllAt at_own_depth

  pub depth_within : (d : ℕ) (s : List ℕ) (p : Op) → read_op l width d s ≡ some p → depth_of p ≤ d
  depth_within d s p e = (at_depth d s p e).within

  -- an operation reads the same at every depth from its own
  pub same_depth :
      (d k : ℕ) (s : List ℕ) (p : Op) → read_op l width d s ≡ some p → depth_of p ≤ k → read_op l width k s ≡ some p
  same_depth d k s p e h = (at_depth d s p e).reads k h

  -- so with more depth to spare it reads the same
  pub more_depth :
      (d k : ℕ) (s : List ℕ) (p : Op) → read_op l width d s ≡ some p → d ≤ k → read_op l width k s ≡ some p
  more_depth d k s p e h = same_depth d k s p e (omega (arith, depth_within d s p e))
