-- The same first lines: what one line more says. Assumes nothing.
use Prim.Native.Nat.{ℕ, suc, ◌<◌}
use native.Mathlib.Omega.{arith}
use mathlib.Core.Bool.{Bool, true, ◌&&◌}
use mathlib.Core.List.{List, [], ◌∷◌, ◌++◌, append_assoc}
use mathlib.Core.Path.{◌≡◌, refl, ap₂, ◌∙◌}
use lib.Dec.{ltb}
use borrow.Author.Tests.{ltb-true}
use Rattle.basics.proofs.Choice.{and_both}
use Rattle.lines.specs.Fields.{LF}
use Rattle.lines.specs.Same.{NoLF, Whole, none, more, SameLines}

-- bytes that are all above LF
unfoldable pub highs : List ℕ → Bool
highs [] = true
highs (b ∷ bs) = ltb LF b && highs bs

pub high_no_lf : (s : List ℕ) → highs s ≡ true → NoLF s
unfolding highs NoLF
high_no_lf [] h = tt
high_no_lf (b ∷ bs) h =
    let (p, q) = and_both (ltb LF b) (highs bs) h in
    let lt = ltb-true LF b p in
    ((λ e. omega (arith, lt, e)), high_no_lf bs q)

pub no_lf_more : (b : ℕ) (s : List ℕ) → (b ≡ LF → ⊥) → NoLF s → NoLF (b ∷ s)
unfolding NoLF
no_lf_more b s h k = (h, k)

-- two texts that are equal up to their first LF
pub record Cut (a x b y : List ℕ) : Type 0 where
  pub front : a ≡ b
  pub back : x ≡ y

pub cut : (a x b y : List ℕ) → NoLF a → NoLF b → a ++ (LF ∷ x) ≡ b ++ (LF ∷ y) → Cut a x b y
unfolding NoLF
cut [] x [] y p q e = record { front = refl; back = cc }
cut [] x (c ∷ b) y p q e = let h : c ≡ LF = cc in absurd (q.0 h)
cut (d ∷ a) x [] y p q e = let h : d ≡ LF = cc in absurd (p.0 h)
cut (d ∷ a) x (c ∷ b) y p q e =
    let h : d ≡ c = cc in
    let t : a ++ (LF ∷ x) ≡ b ++ (LF ∷ y) = cc in
    let i = cut a x b y p.1 q.1 t in
    record { front = ap₂ ◌∷◌ h i.front; back = i.back }

pub no_lines : (t u : List ℕ) → SameLines 0 t u
no_lines t u = record { lines = []; whole = none; after = t; begins = refl; after' = u; begins' = refl }

-- a line in front of both
pub grow :
    (k : ℕ) (l t u : List ℕ) → NoLF l → SameLines k t u → SameLines (suc k) (l ++ (LF ∷ t)) (l ++ (LF ∷ u))
grow k l t u h s = record {
  lines = l ++ (LF ∷ s.lines);
  whole = more l h s.whole;
  after = s.after;
  begins = rw (append_assoc l (LF ∷ s.lines) s.after, ← s.begins);
  after' = s.after';
  begins' = rw (append_assoc l (LF ∷ s.lines) s.after', ← s.begins');
}

-- nothing has the first line of an empty text
pub none_of_empty : (k : ℕ) (t : List ℕ) → SameLines (suc k) t [] → ⊥
none_of_empty k t s = go (suc k) s.lines s.whole s.after' s.begins' (omega arith)
  where
    not_nil : (l p a : List ℕ) → [] ≡ (l ++ (LF ∷ p)) ++ a → ⊥
    not_nil [] p a e = let z : ◌≡◌ {A = ℕ} 0 1 = cc in omega arith
    not_nil (x ∷ l) p a e = let z : ◌≡◌ {A = ℕ} 0 1 = cc in omega arith

    go : (m : ℕ) (p : List ℕ) → Whole m p → (a : List ℕ) → [] ≡ p ++ a → 0 < m → ⊥
    go _ _ none a e h = omega arith
    go _ _ (more {p = p} l q w) a e h = not_nil l p a e

-- a first line that is the same: it stands in front of t too, and what follows has one line less
pub record Peeled (k : ℕ) (l t u : List ℕ) : Type 0 where
  pub rest : List ℕ
  pub text : t ≡ l ++ (LF ∷ rest)
  pub same : SameLines k rest u

pub peel : (k : ℕ) (l t u : List ℕ) → NoLF l → SameLines (suc k) t (l ++ (LF ∷ u)) → Peeled k l t u
peel k l t u h s = go (suc k) s.lines s.whole refl s.begins s.begins'
  where
    go :
        (m : ℕ) (p : List ℕ) → Whole m p → m ≡ suc k → t ≡ p ++ s.after → l ++ (LF ∷ u) ≡ p ++ s.after' →
        Peeled k l t u
    go _ _ none e b b' = absurd (omega arith)
    go _ _ (more {k = j} {p = p} x q w) e b b' =
        let c = cut l u x (p ++ s.after') h q (b' ∙ append_assoc x (LF ∷ p) s.after') in
        let jk : j ≡ k = omega arith in
        record {
          rest = p ++ s.after;
          text = b ∙ (append_assoc x (LF ∷ p) s.after ∙ rw (← c.front));
          same =
              record {
                lines = p;
                whole = rw jk at w;
                after = s.after;
                begins = refl;
                after' = s.after';
                begins' = c.back;
              };
        }
