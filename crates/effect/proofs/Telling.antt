-- What is told of running any bytes leaves one result and one state of the cells. Assumes nothing.
use Prim.Native.Nat.{ℕ}
use native.Mathlib.Omega.{arith}
use mathlib.Core.List.{List}
use mathlib.Core.Path.{◌≡◌, refl, sym, ap, ◌∙◌}
use Rattle.std.specs.Prelude.{Result, Ok, Err, ⊤}
use Rattle.operation.specs.Limits.{Limits}
use Rattle.effect.specs.Telling.{Told, told, tells}
use Rattle.effect.specs.declared.Failure.{Failure}
use Rattle.effect.specs.declared.Failure.TheVariants.{Malformed, Fails}

module _ (c d : List ℕ) where
  one_result : (r q : Result ⊤ Failure) → told r c ≡ told q d → r ≡ q
  one_result (Ok x) (Ok y) e = refl
  one_result (Ok x) (Err Fails) e = absurd (omega (arith, ap (λ (t : Told). t.outcome) e))
  one_result (Ok x) (Err Malformed) e = absurd (omega (arith, ap (λ (t : Told). t.answer) e))
  one_result (Err Fails) (Ok y) e = absurd (omega (arith, ap (λ (t : Told). t.outcome) e))
  one_result (Err Fails) (Err Fails) e = refl
  one_result (Err Fails) (Err Malformed) e = absurd (omega (arith, ap (λ (t : Told). t.answer) e))
  one_result (Err Malformed) (Ok y) e = absurd (omega (arith, ap (λ (t : Told). t.answer) e))
  one_result (Err Malformed) (Err Fails) e = absurd (omega (arith, ap (λ (t : Told). t.answer) e))
  one_result (Err Malformed) (Err Malformed) e = refl

  same_cells : (r q : Result ⊤ Failure) → told r c ≡ told q d → c ≡ d
  same_cells r q e = cells_of r c ∙ (ap (λ (t : Told). t.cells) e ∙ sym (cells_of q d))
    where
      cells_of : (v : Result ⊤ Failure) (x : List ℕ) → x ≡ (told v x).cells
      cells_of (Ok y) x = refl
      cells_of (Err Fails) x = refl
      cells_of (Err Malformed) x = refl

-- any two answers to one call, with the cells that they leave, are the same
pub run_unique :
    (l : Limits) (width : ℕ) (s c d e : List ℕ) (r q : Result ⊤ Failure) → told r d ≡ tells l width s c →
    told q e ≡ tells l width s c → (r ≡ q) × (d ≡ e)
run_unique l width s c d e r q f g =
    let h : told r d ≡ told q e = f ∙ sym g in
    (one_result d e r q h, same_cells d e r q h)
