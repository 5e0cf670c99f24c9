-- A selling machine as a state of GUESSTIMATE. Assumes nothing: these are definitions.
use Rattle.std.specs.Prelude.{ℕ, ◌+◌, not, List, map, set, drop}
use Rattle.operation.specs.Limits.{Limits}
use Rattle.effect.specs.Running.{cell, outcome, came, bit}
use Rattle.effect.specs.Replaying.{queued}
use Rattle.machine.specs.Guesstimate.{Shared, Composite, State, effect_of_all}
use Rattle.machine.specs.declared.Machine.{Machine}

-- the cells are the shared state; the notes, and how many sales were kept and lost, the local one
pub record Local : Type 0 where
  pub notes : List ℕ
  pub kept : ℕ
  pub lost : ℕ

abbrev pub Cells : Type 0
Cells = List ℕ

module _ (l : Limits) (width : ℕ) where
  -- what bytes do to the cells, and whether they succeed
  abbrev pub shared : List ℕ → Shared Cells Local
  shared op σ = ((came σ (outcome l width op σ)).cells, (came σ (outcome l width op σ)).ok)

  -- a sale: when it is decided, kept or lost grows
  abbrev pub sale : List ℕ → Composite Cells Local
  sale op = record {
    s = shared op;
    c = λ σ γ b. record { notes = γ.notes; kept = γ.kept + bit b; lost = γ.lost + bit (not b) };
  }

-- note k of cell i
abbrev pub noting : ℕ → ℕ → Cells → Local → Local
noting k i σ γ = record { notes = set γ.notes k (cell σ i); kept = γ.kept; lost = γ.lost }

-- the machine's state, where C has been completed
abbrev pub view : Limits → List (Shared Cells Local) → Machine → State Cells Local
view l C m = record {
  γ = record { notes = m.notes; kept = m.kept; lost = m.lost };
  C = C;
  σc = m.agreed;
  P = map (sale l m.width) (queued m.waiting m.queue);
  σg = m.guess;
}

-- what a fresh copy, which the paper does not have, does to it: what the hub had completed is completed here, the n
-- oldest pending leave with no completion run, and the rest is replayed
abbrev pub Copy : List (Shared Cells Local) → Cells → ℕ → State Cells Local → State Cells Local
Copy C cells n st = record {
  γ = st.γ;
  C = C;
  σc = cells;
  P = drop n st.P;
  σg = effect_of_all Cells Local (drop n st.P) cells;
}
