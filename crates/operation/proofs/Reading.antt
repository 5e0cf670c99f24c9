-- Laws of reading: what is to be shown of every operation that is read, shown by its kind. Assumes nothing.
use Prim.Native.Nat.{ℕ, zero, suc, ◌-◌, ◌<◌}
use native.Mathlib.Omega.{arith}
use native.Mathlib.Numerals.{sub-one}
use mathlib.Core.Path.{◌≡◌, refl}
use mathlib.Core.List.{List}
use mathlib.Core.Option.{Option, some, none, map, bind}
use lib.ListN.{drop}
use Rattle.std.specs.Prelude.{Option as Known, Some, None}
use Rattle.operation.specs.Limits.{Limits}
use Rattle.operation.specs.FirstBytes.{kind_of}
use Rattle.operation.specs.Tree.{Op, Ops, plain, atomic, orelse, end, ◌then◌, op_size}
use Rattle.operation.specs.Reading.{read_parts, read_two, read_body, read_op}
use Rattle.operation.specs.declared.Plain.{Plain}
use Rattle.operation.specs.declared.kind.Kind.{Kind}
use Rattle.operation.specs.declared.kind.Kind.TheVariants.{One, Atomic, Orelse}

-- nothing is read where nothing can be
pub none_some : {A : Type 0} {P : Type 0} (o : Option A) (a : A) → o ≡ none → o ≡ some a → P
none_some o a n e = let z : ◌≡◌ {A = ℕ} 0 1 = cc in absurd (omega arith)

-- one step of reading, at a depth that is not 0, and of reading parts, where some are left
pub read_step :
    (l : Limits) (width depth : ℕ) (s : List ℕ) → 0 < depth →
    read_op l width depth s ≡ read_body (read_op l width (depth - 1)) (kind_of l width s) s
unfolding read_op
read_step l width zero s f = absurd (omega arith)
read_step l width (suc d) s f = rw (sub-one (suc d))

pub parts_step :
    (inner : List ℕ → Option Op) (n : ℕ) (s : List ℕ) → 0 < n →
    read_parts inner n s ≡ bind (inner s)
    (λ p. map (λ ps. p then ps) (read_parts inner (n - 1) (drop (op_size p) s)))
unfolding read_parts
parts_step inner zero s f = absurd (omega arith)
parts_step inner (suc n) s f = rw (sub-one (suc n))

-- parts that were read are a first one and those after it
pub record Split (inner : List ℕ → Option Op) (n : ℕ) (s : List ℕ) (qs : Ops) : Type 0 where
  pub front : Op
  pub back : Ops
  pub reads_front : inner s ≡ some front
  pub reads_back : read_parts inner n (drop (op_size front) s) ≡ some back
  pub joined : qs ≡ (front then back)

-- and so are the two of an ORELSE
pub record Two (inner : List ℕ → Option Op) (s : List ℕ) (r : Op) : Type 0 where
  pub first : Op
  pub second : Op
  pub reads_first : inner s ≡ some first
  pub reads_second : inner (drop (op_size first) s) ≡ some second
  pub joined : r ≡ orelse first second

module _ (inner : List ℕ → Option Op) where
  pub split : (n : ℕ) (s : List ℕ) (qs : Ops) → read_parts inner (suc n) s ≡ some qs → Split inner n s qs
  unfolding read_parts bind
  split n s qs e = go (inner s) refl e
    where
      more :
          (p : Op) → inner s ≡ some p → (o : Option Ops) → read_parts inner n (drop (op_size p) s) ≡ o →
          map (λ ps. p then ps) o ≡ some qs → Split inner n s qs
      more p i (some ps) b e = record { front = p; back = ps; reads_front = i; reads_back = b; joined = cc }
      more p i none b e = none_some none qs refl e

      go :
          (o : Option Op) → inner s ≡ o →
          bind o (λ p. map (λ ps. p then ps) (read_parts inner n (drop (op_size p) s))) ≡ some qs →
          Split inner n s qs
      go (some p) i e = more p i (read_parts inner n (drop (op_size p) s)) refl e
      go none i e = none_some none qs refl e

  pub split_of : (n : ℕ) (s : List ℕ) (qs : Ops) → 0 < n → read_parts inner n s ≡ some qs → Split inner (n - 1) s qs
  split_of zero s qs f e = absurd (omega arith)
  split_of (suc n) s qs f e = rw (sub-one (suc n)) (split n s qs e)

  pub two_of : (s : List ℕ) (r : Op) → read_two inner s ≡ some r → Two inner s r
  unfolding read_two bind
  two_of s r e = go (inner s) refl e
    where
      more :
          (p : Op) → inner s ≡ some p → (o : Option Op) → inner (drop (op_size p) s) ≡ o →
          map (λ q. orelse p q) o ≡ some r → Two inner s r
      more p i (some q) b e = record { first = p; second = q; reads_first = i; reads_second = b; joined = cc }
      more p i none b e = none_some none r refl e

      go :
          (o : Option Op) → inner s ≡ o →
          bind o (λ p. map (λ q. orelse p q) (inner (drop (op_size p) s))) ≡ some r → Two inner s r
      go (some p) i e = more p i (inner (drop (op_size p) s)) refl e
      go none i e = none_some none r refl e

-- What shows Q of every operation that is read at a depth, and Qs of every list of n parts: a case for each kind.
pub record ByKinds
    (l : Limits) (width : ℕ) (Q : ℕ → List ℕ → Op → Type 0) (Qs : ℕ → ℕ → List ℕ → Ops → Type 0)
    : Type 0 where
  pub on_plain : (d : ℕ) (s : List ℕ) (p : Plain) → Some (One p) ≡ kind_of l width s → Q (suc d) s (plain p)
  pub on_atomic :
      (d n : ℕ) (s : List ℕ) (ps : Ops) → Some (Atomic n) ≡ kind_of l width s → Qs d n (drop 2 s) ps →
      Q (suc d) s (atomic ps)
  pub on_orelse :
      (d : ℕ) (s : List ℕ) (p q : Op) → Some Orelse ≡ kind_of l width s → Q d (drop 1 s) p →
      Q d (drop (op_size p) (drop 1 s)) q → Q (suc d) s (orelse p q)
  pub on_end : (d : ℕ) (s : List ℕ) → Qs d 0 s end
  pub on_then :
      (d n : ℕ) (s : List ℕ) (p : Op) (ps : Ops) → Q d s p → Qs d n (drop (op_size p) s) ps →
      Qs d (suc n) s (p then ps)

module _
    (l : Limits) (width : ℕ) (Q : ℕ → List ℕ → Op → Type 0) (Qs : ℕ → ℕ → List ℕ → Ops → Type 0)
    (cases : ByKinds l width Q Qs)
  where
    -- of the parts, where it is shown of each operation that is read at this depth
    parts_of :
        (d : ℕ) → ((s : List ℕ) (p : Op) → read_op l width d s ≡ some p → Q d s p) →
        (n : ℕ) (s : List ℕ) (ps : Ops) → read_parts (read_op l width d) n s ≡ some ps → Qs d n s ps
    unfolding read_parts
    parts_of d each zero s ps e = let v : ps ≡ end = cc in rw v (cases.on_end d s)
    parts_of d each (suc n) s ps e =
        let r = split (read_op l width d) n s ps e in
        let rest = parts_of d each n (drop (op_size r.front) s) r.back r.reads_back in
        rw r.joined (cases.on_then d n s r.front r.back (each s r.front r.reads_front) rest)

    body_of :
        (d : ℕ) → ((s : List ℕ) (p : Op) → read_op l width d s ≡ some p → Q d s p) →
        (s : List ℕ) (r : Op) (k : Known Kind) → k ≡ kind_of l width s → read_body (read_op l width d) k s ≡ some r →
        Q (suc d) s r
    unfolding read_body
    body_of d each s r (Some (One p)) h e = let v : r ≡ plain p = cc in rw v (cases.on_plain d s p h)
    body_of d each s r (Some (Atomic n)) h e = go (read_parts (read_op l width d) n (drop 2 s)) refl e
      where
        go :
            (o : Option Ops) → read_parts (read_op l width d) n (drop 2 s) ≡ o → map atomic o ≡ some r →
            Q (suc d) s r
        go (some ps) i e =
            let v : r ≡ atomic ps = cc in
            rw v (cases.on_atomic d n s ps h (parts_of d each n (drop 2 s) ps i))
        go none i e = none_some none r refl e
    body_of d each s r (Some Orelse) h e =
        let t = two_of (read_op l width d) (drop 1 s) r e in
        let first = each (drop 1 s) t.first t.reads_first in
        let second = each (drop (op_size t.first) (drop 1 s)) t.second t.reads_second in
        rw t.joined (cases.on_orelse d s t.first t.second h first second)
    body_of d each s r None h e = none_some none r refl e

    pub reads_op : (d : ℕ) (s : List ℕ) (p : Op) → read_op l width d s ≡ some p → Q d s p
    unfolding read_op
    reads_op zero s p e = none_some none p refl e
    reads_op (suc d) s p e = body_of d (λ t q i. reads_op d t q i) s p (kind_of l width s) refl e

    pub reads_parts : (d n : ℕ) (s : List ℕ) (ps : Ops) → read_parts (read_op l width d) n s ≡ some ps → Qs d n s ps
    reads_parts d = parts_of d (reads_op d)
