-- Laws of the walk over the bytes: what each way through it comes to. Assumes nothing.
use Prim.Native.Nat.{ℕ, ◌-◌, ◌<◌, ◌≤◌}
use native.Mathlib.Omega.{arith}
use mathlib.Core.Bool.{true, false}
use mathlib.Core.List.{List}
use mathlib.Core.Option.{Option, some, none, map, bind, or_else}
use mathlib.Core.Path.{◌≡◌, refl, sym, ◌∙◌}
use lib.ListN.{drop}
use Rattle.std.specs.Prelude.{Some, None}
use Rattle.operation.specs.Limits.{Limits}
use Rattle.operation.specs.FirstBytes.{kind_of}
use Rattle.operation.specs.Tree.{Op, Ops, plain, atomic, end, op_size}
use Rattle.operation.specs.Reading.{read_parts, read_body, read_op}
use Rattle.operation.specs.Sizes.{size_of}
use Rattle.operation.specs.declared.Plain.{Plain}
use Rattle.operation.specs.declared.Plain.TheVariants.{Need, Put, Draw, Move}
use Rattle.operation.specs.declared.kind.Kind.TheVariants.{One, Atomic, Orelse}
use Rattle.operation.proofs.FirstBytes.{PlainRead, kind_is}
use Rattle.operation.proofs.Reading.{none_some, read_step, split_of, two_of}
use Rattle.effect.proofs.Cases.{came_some, came_none}
use Rattle.effect.specs.Running.{step, run, run_all, Came, did, came}
use Rattle.effect.specs.Walking.{Inside, RunsOp, RunsEither, RunsAtomic, RunsParts}

-- the cells that a plain operation names are there
pub kind_inside :
    (l : Limits) (width m : ℕ) (s : List ℕ) (p : Plain) → width ≤ m → Some (One p) ≡ kind_of l width s → Inside m p
kind_inside l width m s p h e = go p (kind_is l width s (Some (One p)) e)
  where
    go : (p : Plain) → PlainRead l width s p → Inside m p
    go (Need cell amount) r = omega (arith, r.1.below)
    go (Put cell amount) r = omega (arith, r.1.below)
    go (Draw cell amount) r = omega (arith, r.1.below)
    go (Move from to amount) r = (omega (arith, r.3), omega (arith, r.1.below))

module _ (l : Limits) (width depth : ℕ) (s c : List ℕ) (r : Came) where
  pub run_zero : depth ≡ 0 → RunsOp l (read_op l width depth) s c r
  unfolding read_op
  run_zero h p e = none_some (read_op l width depth s) p (rw h) e

  module _ (f : 0 < depth) where
    pub run_malformed : None ≡ kind_of l width s → RunsOp l (read_op l width depth) s c r
    unfolding read_body
    run_malformed h p e = none_some (read_op l width depth s) p (rw (read_step l width depth s f, ← h)) e

    pub run_one :
        (p : Plain) → Some (One p) ≡ kind_of l width s → r ≡ came c (step l p c) → RunsOp l (read_op l width depth) s c r
    unfolding read_body run
    run_one p h q o e =
        let w : some o ≡ some (plain p) = sym e ∙ rw (read_step l width depth s f, ← h) in
        let v : o ≡ plain p = cc in
        rw v q

    pub run_atomic :
        (n : ℕ) (t : List ℕ) → Some (Atomic n) ≡ kind_of l width s → t ≡ drop 2 s →
        RunsAtomic l (read_op l width (depth - 1)) n t c r → RunsOp l (read_op l width depth) s c r
    unfolding read_body run
    run_atomic n t h u q o e =
        go (read_parts (read_op l width (depth - 1)) n (drop 2 s)) (rw u at q) o
        (rw (read_step l width depth s f, ← h) at e)
      where
        go :
            (ops : Option Ops) → ((ps : Ops) → ops ≡ some ps → r ≡ came c (run_all l ps c)) → (o : Op) →
            map atomic ops ≡ some o → r ≡ came c (run l o c)
        go (some ps) k o e = let v : o ≡ atomic ps = cc in rw v (k ps refl)
        go none k o e = none_some none o refl e

    pub run_orelse :
        (t : List ℕ) → Some Orelse ≡ kind_of l width s → t ≡ drop 1 s → RunsEither l (read_op l width (depth - 1)) t c r →
        RunsOp l (read_op l width depth) s c r
    unfolding read_body
    run_orelse t h u q o e = q o (rw u (rw (read_step l width depth s f, ← h) at e))

module _ (l : Limits) (reader : List ℕ → Option Op) (s c : List ℕ) where
  pub parts_zero : (n : ℕ) → n ≡ 0 → RunsParts l reader n s c (did true c)
  unfolding read_parts run
  parts_zero n h ps e = let w : some end ≡ some ps = rw h at e in let v : ps ≡ end = cc in rw v refl

  -- no operation begins s
  module _ (no : None ≡ size_of (reader s)) (r : Came) where
    unread : {P : Type 0} (p : Op) → reader s ≡ some p → P
    unread p e =
        let w : None ≡ Some (op_size p) = no ∙ rw e in
        let z : ◌≡◌ {A = ℕ} 0 1 = cc in
        absurd (omega arith)

    pub parts_none : (n : ℕ) → 0 < n → RunsParts l reader n s c r
    parts_none n f qs e = let p = split_of reader n s qs f e in unread p.front p.reads_front

    pub either_none : RunsEither l reader s c r
    either_none o e = let t = two_of reader s o e in unread t.first t.reads_first

  -- the first operation was run
  module _ (q : Came) (ran : RunsOp l reader s c q) where
    pub parts_stop : (n : ℕ) (r : Came) → 0 < n → q.ok ≡ false → r.ok ≡ false → RunsParts l reader n s c r
    unfolding run bind
    parts_stop n r f h k qs e =
        let p = split_of reader n s qs f e in
        rw (p.joined, (came_none c q (run l p.front c) (ran p.front p.reads_front) h).0) k

    pub either_first : q.ok ≡ true → RunsEither l reader s c (did true q.cells)
    unfolding run or_else
    either_first h o e =
        let t = two_of reader s o e in
        rw (t.joined, came_some c q (run l t.first c) (ran t.first t.reads_first) h)

    -- and those after it are read where it ends
    module _ (k : ℕ) (t : List ℕ) (size : Some k ≡ size_of (reader s)) (rest : t ≡ drop k s) where
      after_first : (p : Op) → reader s ≡ some p → t ≡ drop (op_size p) s
      after_first p e =
          let w : Some k ≡ Some (op_size p) = size ∙ rw e in
          let v : k ≡ op_size p = cc in
          rest ∙ rw v

      pub parts_more :
          (n : ℕ) (r : Came) → 0 < n → q.ok ≡ true → RunsParts l reader (n - 1) t q.cells r →
          RunsParts l reader n s c r
      unfolding run bind
      parts_more n r f h back qs e =
          let p = split_of reader n s qs f e in
          rw (p.joined, came_some c q (run l p.front c) (ran p.front p.reads_front) h)
          (back p.back (rw (after_first p.front p.reads_front) p.reads_back))

      pub either_second : (r : Came) → q.ok ≡ false → RunsOp l reader t q.cells r → RunsEither l reader s c r
      unfolding run or_else
      either_second r h second o e =
          let p = two_of reader s o e in
          let failed = came_none c q (run l p.first c) (ran p.first p.reads_first) h in
          rw (p.joined, failed.0)
          ((rw failed.1 at second) p.second (rw (after_first p.first p.reads_first) p.reads_second))
