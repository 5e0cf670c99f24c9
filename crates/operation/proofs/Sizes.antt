-- Laws of sizes: what is read takes no more bytes than there are, and the size by each way through the code.
-- Assumes nothing.
use Prim.Native.Nat.{ℕ, ◌+◌, ◌-◌, ◌≤◌, ◌<◌, zero-le}
use native.Mathlib.Nat.{add-zero}
use native.Mathlib.Omega.{arith}
use mathlib.Core.Path.{◌≡◌, refl}
use mathlib.Core.List.{List}
use mathlib.Core.Option.{Option, some, none, map, bind}
use lib.ListN.{length, drop, length-drop}
use Rattle.operation.specs.Limits.{Limits}
use Rattle.operation.specs.FirstBytes.{kind_of}
use Rattle.operation.specs.Tree.{Op, Ops, atomic, orelse, end, ◌then◌, plain_size, op_size, ops_size}
use Rattle.operation.specs.Reading.{read_parts, read_two, read_body, read_op}
use Rattle.std.specs.Prelude.{Option as Known, Some, None, option_map}
use Rattle.operation.specs.Sizes.{size_of, sizes_of}
use Rattle.operation.specs.declared.Plain.{Plain}
use Rattle.operation.specs.declared.Plain.TheVariants.{Need, Put, Draw, Move}
use Rattle.operation.specs.declared.kind.Kind.TheVariants.{One, Atomic, Orelse}
use Rattle.operation.proofs.FirstBytes.{PlainRead, kind_is}
use Rattle.operation.proofs.Reading.{read_step, parts_step, ByKinds, reads_op, reads_parts}

-- a size that is known is that of what was read
pub record Sized (o : Option Op) (k : ℕ) : Type 0 where
  pub op : Op
  pub is_read : o ≡ some op
  pub size_is : k ≡ op_size op

pub sized : (o : Option Op) (k : ℕ) → Some k ≡ size_of o → Sized o k
sized (some p) k e = record { op = p; is_read = refl; size_is = cc }
sized none k e = let z : ◌≡◌ {A = ℕ} 0 1 = cc in absurd (omega arith)

-- so many bytes more
abbrev pub more : ℕ → Known ℕ → Known ℕ
more n size = option_map (λ k. n + k) size

plain_fits : (l : Limits) (width : ℕ) (s : List ℕ) (p : Plain) → PlainRead l width s p → plain_size p ≤ length s
plain_fits l width s (Need cell amount) r = r.1.long
plain_fits l width s (Put cell amount) r = r.1.long
plain_fits l width s (Draw cell amount) r = r.1.long
plain_fits l width s (Move from to amount) r = r.1.long

-- the two of an ORELSE take as many bytes as a list of two parts
size_two :
    (inner : List ℕ → Option Op) (t : List ℕ) → more 1 (sizes_of (read_parts inner 2 t)) ≡ size_of (read_two inner t)
unfolding read_parts read_two bind op_size
size_two inner t = go (inner t)
  where
    last :
        (p : Op) (o : Option Op) →
        more 1
        (sizes_of (map (λ ps. p then ps) (bind o (λ q. map (λ ps. q then ps) (some end))))) ≡ size_of
        (map (λ q. orelse p q) o)
    last p (some q) = rw add-zero
    last p none = refl

    go :
        (o : Option Op) →
        more 1
        (sizes_of (bind o (λ p. map (λ ps. p then ps)
        (bind (inner (drop (op_size p) t)) (λ q. map (λ ps. q then ps) (some end)))))) ≡ size_of
        (bind o (λ p. map (λ q. orelse p q) (inner (drop (op_size p) t))))
    go (some p) = last p (inner (drop (op_size p) t))
    go none = refl

-- what is read takes no more bytes than there are
module _ (l : Limits) (width : ℕ) where
  abbrev Fits : ℕ → List ℕ → Op → Type 0
  Fits d s p = op_size p ≤ length s

  abbrev AllFit : ℕ → ℕ → List ℕ → Ops → Type 0
  AllFit d n s ps = ops_size ps ≤ length s

  fit : ByKinds l width Fits AllFit
  unfolding op_size
  fit = record {
    on_plain = λ d s p h. plain_fits l width s p (kind_is l width s (Some (One p)) h);
    on_atomic = λ d n s ps h f. omega (arith, simp length-drop at f, (kind_is l width s (Some (Atomic n)) h).1);
    on_orelse =
        λ d s p q h f g. omega (arith, simp length-drop at f, simp length-drop at g, (kind_is l width s (Some Orelse) h).1);
    on_end = λ d s. zero-le;
    on_then = λ d n s p ps f g. omega (arith, simp length-drop at g);
  }

  pub op_fits : (depth : ℕ) (s : List ℕ) (p : Op) → read_op l width depth s ≡ some p → op_size p ≤ length s
  op_fits = reads_op l width Fits AllFit fit

  pub parts_fit :
      (depth n : ℕ) (s : List ℕ) (ps : Ops) → read_parts (read_op l width depth) n s ≡ some ps →
      ops_size ps ≤ length s
  parts_fit = reads_parts l width Fits AllFit fit

  pub size_fits : (depth : ℕ) (s : List ℕ) (k : ℕ) → Some k ≡ size_of (read_op l width depth s) → k ≤ length s
  size_fits depth s k e =
      let r = sized (read_op l width depth s) k e in
      omega (arith, op_fits depth s r.op r.is_read, r.size_is)

  pub sizes_fit :
      (depth n : ℕ) (s : List ℕ) (k : ℕ) → Some k ≡ sizes_of (read_parts (read_op l width depth) n s) → k ≤ length s
  sizes_fit depth n s k e = go (read_parts (read_op l width depth) n s) refl e
    where
      go :
          (o : Option Ops) → read_parts (read_op l width depth) n s ≡ o → Some k ≡ sizes_of o → k ≤ length s
      go (some ps) i e = let v : k ≡ ops_size ps = cc in omega (arith, parts_fit depth n s ps i)
      go none i e = let z : ◌≡◌ {A = ℕ} 0 1 = cc in absurd (omega arith)

  -- the size of an operation, by its kind
  module _ (depth : ℕ) (s : List ℕ) where
    pub size_zero : depth ≡ 0 → None ≡ size_of (read_op l width depth s)
    unfolding read_op
    size_zero e = rw e

    module _ (f : 0 < depth) where
      pub size_malformed : None ≡ kind_of l width s → None ≡ size_of (read_op l width depth s)
      unfolding read_body
      size_malformed h = rw (read_step l width depth s f, ← h)

      pub size_one :
          (p : Plain) (k : ℕ) → Some (One p) ≡ kind_of l width s → k ≡ plain_size p →
          Some k ≡ size_of (read_op l width depth s)
      unfolding read_body op_size
      size_one p k h e = rw (read_step l width depth s f, ← h, e)

      pub size_atomic :
          (n : ℕ) (t : List ℕ) (r : Known ℕ) → Some (Atomic n) ≡ kind_of l width s → t ≡ drop 2 s →
          r ≡ sizes_of (read_parts (read_op l width (depth - 1)) n t) → more 2 r ≡ size_of (read_op l width depth s)
      unfolding read_body op_size
      size_atomic n t r h u e =
          rw (read_step l width depth s f, ← h, e, u) (go (read_parts (read_op l width (depth - 1)) n (drop 2 s)))
        where
          go : (o : Option Ops) → more 2 (sizes_of o) ≡ size_of (map atomic o)
          go (some ps) = refl
          go none = refl

      pub size_orelse :
          (t : List ℕ) (r : Known ℕ) → Some Orelse ≡ kind_of l width s → t ≡ drop 1 s →
          r ≡ sizes_of (read_parts (read_op l width (depth - 1)) 2 t) → more 1 r ≡ size_of (read_op l width depth s)
      unfolding read_body
      size_orelse t r h u e =
          rw (read_step l width depth s f, ← h, e, u) (size_two (read_op l width (depth - 1)) (drop 1 s))

-- the size of a list of parts, by its first
module _ (inner : List ℕ → Option Op) (n : ℕ) (s : List ℕ) where
  pub sizes_zero : n ≡ 0 → Some 0 ≡ sizes_of (read_parts inner n s)
  unfolding read_parts op_size
  sizes_zero e = rw e

  module _ (f : 0 < n) where
    pub sizes_none : None ≡ size_of (inner s) → None ≡ sizes_of (read_parts inner n s)
    unfolding bind
    sizes_none h = rw (parts_step inner n s f) (go (inner s) h)
      where
        go :
            (o : Option Op) → None ≡ size_of o →
            None ≡ sizes_of
            (bind o (λ p. map (λ ps. p then ps) (read_parts inner (n - 1) (drop (op_size p) s))))
        go (some p) q = let z : ◌≡◌ {A = ℕ} 0 1 = cc in absurd (omega arith)
        go none q = refl

    pub sizes_more :
        (a : ℕ) (t : List ℕ) (r : Known ℕ) → Some a ≡ size_of (inner s) → t ≡ drop a s →
        r ≡ sizes_of (read_parts inner (n - 1) t) → more a r ≡ sizes_of (read_parts inner n s)
    unfolding bind op_size
    sizes_more a t r h u e =
        let p = sized (inner s) a h in
        rw (parts_step inner n s f, e, u) (known p.op p.is_read p.size_is)
      where
        last : (p : Op) (o : Option Ops) → more (op_size p) (sizes_of o) ≡ sizes_of (map (λ ps. p then ps) o)
        last p (some ps) = refl
        last p none = refl

        known :
            (p : Op) → inner s ≡ some p → a ≡ op_size p →
            more a (sizes_of (read_parts inner (n - 1) (drop a s))) ≡ sizes_of
            (bind (inner s) (λ p. map (λ ps. p then ps) (read_parts inner (n - 1) (drop (op_size p) s))))
        known p i v = rw (i, v) (last p (read_parts inner (n - 1) (drop (op_size p) s)))

-- what the code that measures comes to where it has nothing to add, and what it may add
pub ruleset size_laws = (size_zero, size_malformed, sizes_zero, sizes_none, size_fits, sizes_fit)
