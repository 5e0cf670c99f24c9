-- How far a text is: what is wanted next, and why. Assumes nothing.
use Prim.Native.Nat.{ℕ, ◌+◌, ◌≤◌, ◌<◌}
use native.Mathlib.Omega.{arith}
use mathlib.Core.Bool.{Bool, true, false}
use mathlib.Core.List.{List}
use mathlib.Core.Path.{◌≡◌, refl}
use lib.Dec.{ltb, eqb}
use lib.ListN.{length}
use borrow.Author.Tests.{ltb-true, ltb-false, eqb-true, eqb-false, ne_eqb, le-ltb}
use Rattle.operation.specs.Limits.{Limits}
use Rattle.state.specs.Numbers.{most_machines, most_issued}
use Rattle.hub.specs.Ring.{total, kept_count}
use Rattle.hubtext.specs.Keys.{form=, machines=, cells=, cell=, next=}
use Rattle.hubtext.specs.Values.{machines_in, width_in, nexts_in}
use Rattle.hubtext.specs.Reading.{field_line, record_line, no_line, want}

-- after the numbers ns and j records
pub data Stage (l : Limits) (ns : List ℕ) (j : ℕ) : Type 0 where
  at_form : length ns ≡ 0 → want l ns j ≡ field_line form= 1 1 → Stage l ns j
  at_machines : length ns ≡ 1 → want l ns j ≡ field_line machines= 1 most_machines → Stage l ns j
  at_cells : length ns ≡ 2 → want l ns j ≡ field_line cells= 1 l.cells → Stage l ns j
  at_cell :
      3 ≤ length ns → length ns < 3 + width_in ns → want l ns j ≡ field_line cell= 0 l.held → Stage l ns j
  at_next :
      3 ≤ length ns → 3 + width_in ns ≤ length ns → length ns < 3 + width_in ns + machines_in ns →
      want l ns j ≡ field_line next= 0 most_issued → Stage l ns j
  at_record :
      3 ≤ length ns → 3 + width_in ns + machines_in ns ≤ length ns → j < kept_count (total (nexts_in ns)) →
      want l ns j ≡ record_line → Stage l ns j
  at_end :
      3 ≤ length ns → 3 + width_in ns + machines_in ns ≤ length ns → kept_count (total (nexts_in ns)) ≤ j →
      want l ns j ≡ no_line → Stage l ns j

pub stage : (l : Limits) (ns : List ℕ) (j : ℕ) → Stage l ns j
unfolding want
stage l ns j = first (eqb (length ns) 0) refl
  where
    sixth : (h : 3 ≤ length ns) → 3 + width_in ns + machines_in ns ≤ length ns → (b : Bool) → ltb j (kept_count (total
        (nexts_in ns))) ≡ b → Stage l ns j
    sixth h k true e =
        at_record h k (ltb-true j (kept_count (total (nexts_in ns))) e)
        (simp (
          ne_eqb (length ns) 0 (λ q. omega (arith, q, h)),
          ne_eqb (length ns) 1 (λ q. omega (arith, q, h)),
          ne_eqb (length ns) 2 (λ q. omega (arith, q, h)),
          le-ltb (length ns) (3 + width_in ns) (omega arith),
          le-ltb (length ns) (3 + width_in ns + machines_in ns) k,
          e,
        ))
    sixth h k false e =
        at_end h k (ltb-false j (kept_count (total (nexts_in ns))) e)
        (simp (
          ne_eqb (length ns) 0 (λ q. omega (arith, q, h)),
          ne_eqb (length ns) 1 (λ q. omega (arith, q, h)),
          ne_eqb (length ns) 2 (λ q. omega (arith, q, h)),
          le-ltb (length ns) (3 + width_in ns) (omega arith),
          le-ltb (length ns) (3 + width_in ns + machines_in ns) k,
          e,
        ))

    fifth : (h : 3 ≤ length ns) → 3 + width_in ns ≤ length ns → (b : Bool) → ltb (length ns) (3 + width_in ns +
        machines_in ns) ≡ b → Stage l ns j
    fifth h k true e =
        at_next h k (ltb-true (length ns) (3 + width_in ns + machines_in ns) e)
        (simp (
          ne_eqb (length ns) 0 (λ q. omega (arith, q, h)),
          ne_eqb (length ns) 1 (λ q. omega (arith, q, h)),
          ne_eqb (length ns) 2 (λ q. omega (arith, q, h)),
          le-ltb (length ns) (3 + width_in ns) k,
          e,
        ))
    fifth h k false e =
        sixth h (ltb-false (length ns) (3 + width_in ns + machines_in ns) e) (ltb j (kept_count (total (nexts_in ns))))
        refl

    fourth : (h : 3 ≤ length ns) → (b : Bool) → ltb (length ns) (3 + width_in ns) ≡ b → Stage l ns j
    fourth h true e =
        at_cell h (ltb-true (length ns) (3 + width_in ns) e)
        (simp (
          ne_eqb (length ns) 0 (λ q. omega (arith, q, h)),
          ne_eqb (length ns) 1 (λ q. omega (arith, q, h)),
          ne_eqb (length ns) 2 (λ q. omega (arith, q, h)),
          e,
        ))
    fourth h false e =
        fifth h (ltb-false (length ns) (3 + width_in ns) e) (ltb (length ns) (3 + width_in ns + machines_in ns)) refl

    third : (length ns ≡ 0 → ⊥) → (length ns ≡ 1 → ⊥) → (b : Bool) → eqb (length ns) 2 ≡ b → Stage l ns j
    third p q true e =
        at_cells (eqb-true (length ns) 2 e) (simp (ne_eqb (length ns) 0 p, ne_eqb (length ns) 1 q, e))
    third p q false e =
        let r = eqb-false (length ns) 2 e in
        fourth (omega (arith, p, q, r)) (ltb (length ns) (3 + width_in ns)) refl

    second : (length ns ≡ 0 → ⊥) → (b : Bool) → eqb (length ns) 1 ≡ b → Stage l ns j
    second p true e = at_machines (eqb-true (length ns) 1 e) (simp (ne_eqb (length ns) 0 p, e))
    second p false e = third p (eqb-false (length ns) 1 e) (eqb (length ns) 2) refl

    first : (b : Bool) → eqb (length ns) 0 ≡ b → Stage l ns j
    first true e = at_form (eqb-true (length ns) 0 e) (simp e)
    first false e = second (eqb-false (length ns) 0 e) (eqb (length ns) 1) refl
