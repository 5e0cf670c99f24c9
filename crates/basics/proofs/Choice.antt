-- Laws of choice by a test. Assumes nothing.
use mathlib.Core.Bool.{Bool, true, false, ◌&&◌, false≢true}
use mathlib.Core.Path.{◌≡◌, refl}
use Rattle.std.specs.Prelude.{if◌then◌else◌}

-- what holds of each of two values by the test's answer holds of the one chosen
pub by_cases :
    {A : Type 0} (P : A → Type 0) (t : Bool) {a b : A} → (t ≡ true → P a) → (t ≡ false → P b) →
    P (if t then a else b)
by_cases P true f g = f refl
by_cases P false f g = g refl

pub and_both : (a b : Bool) → a && b ≡ true → (a ≡ true) × (b ≡ true)
and_both true b h = (refl, h)
and_both false b h = absurd (false≢true h)
