-- The rules R1, R2 and R3 of GUESSTIMATE (its figure 3), in its own notation, for one machine.
-- Assumes nothing: these are definitions.
use Rattle.std.specs.Prelude.{Bool, List, [], ◌∷◌, ◌++◌}

-- shared state σ in Σ, local state γ in Γ
module _ (Σ Γ : Type 0) where
  -- a shared operation succeeds or fails; a completion is told which; a composite operation is a pair of the two
  abbrev pub Shared : Type 0
  Shared = Σ → Σ × Bool

  abbrev pub Completion : Type 0
  Completion = Σ → Γ → Bool → Γ

  pub record Composite : Type 0 where
    pub s : Shared
    pub c : Completion

  -- ⟨γ, C, σc, P, σg⟩: local state, completed, committed, pending, guesstimated
  pub record State : Type 0 where
    pub γ : Γ
    pub C : List Shared
    pub σc : Σ
    pub P : List Composite
    pub σg : Σ

  -- [o], and [sequence]
  abbrev pub effect_of : Composite → Σ → Σ
  effect_of o σ = (o.s σ).0

  unfoldable pub effect_of_all : List Composite → Σ → Σ
  effect_of_all [] σ = σ
  effect_of_all (o ∷ os) σ = effect_of_all os (effect_of o σ)

  abbrev pub Append : {A : Type 0} → List A → A → List A
  Append xs x = xs ++ (x ∷ [])

  abbrev pub AllButFirst : {A : Type 0} → List A → List A
  AllButFirst [] = []
  AllButFirst (x ∷ xs) = xs

  -- R1: a local operation o is issued: γ := o(σg, γ)
  abbrev pub R1 : (Σ → Γ → Γ) → State → State
  R1 o st = record { γ = o st.σg st.γ; C = st.C; σc = st.σc; P = st.P; σg = st.σg }

  -- R2: o is issued, where s(σg) = (σ, true): P := Append(P, o); σg := [o](σg)
  abbrev pub R2 : Composite → State → State
  R2 o st = record { γ = st.γ; C = st.C; σc = st.σc; P = Append st.P o; σg = effect_of o st.σg }

  -- R3 at the machine whose operation o = First(P) it is:
  -- P := AllButFirst(P); C := Append(C, s); (σc, γ) := o(σc, γ)
  abbrev pub R3_own : Composite → State → State
  R3_own o st = record {
    γ = o.c (o.s st.σc).0 st.γ (o.s st.σc).1;
    C = Append st.C o.s;
    σc = (o.s st.σc).0;
    P = AllButFirst st.P;
    σg = st.σg;
  }

  -- R3 at every other machine: C := Append(C, s); σc := s(σc); σg := [P](s(σc))
  abbrev pub R3_other : Shared → State → State
  R3_other s st = record {
    γ = st.γ;
    C = Append st.C s;
    σc = (s st.σc).0;
    P = st.P;
    σg = effect_of_all st.P (s st.σc).0;
  }
