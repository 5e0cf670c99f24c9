-- Laws of values: one more at the end. Assumes nothing.
use Prim.Native.Nat.{ℕ}
use mathlib.Core.List.{List, [], ◌∷◌, ◌++◌, map, append-nil}
use mathlib.Core.Path.{◌≡◌, refl, ap, ◌∙◌}
use Rattle.hub.specs.History.{Decision}
use Rattle.hubtext.specs.Values.{Value, number, entry, numbers_of, entries_of}

pub numbers_append : (vs ws : List Value) → numbers_of (vs ++ ws) ≡ numbers_of vs ++ numbers_of ws
unfolding numbers_of
numbers_append [] ws = refl
numbers_append (number key n ∷ vs) ws = ap (λ x. n ∷ x) (numbers_append vs ws)
numbers_append (entry e ∷ vs) ws = numbers_append vs ws

pub entries_append : (vs ws : List Value) → entries_of (vs ++ ws) ≡ entries_of vs ++ entries_of ws
unfolding entries_of
entries_append [] ws = refl
entries_append (number key n ∷ vs) ws = entries_append vs ws
entries_append (entry e ∷ vs) ws = ap (λ x. e ∷ x) (entries_append vs ws)

-- of numbers alone, and of records alone
pub numbers_of_numbers : (key ns : List ℕ) → numbers_of (map (number key) ns) ≡ ns
unfolding numbers_of
numbers_of_numbers key [] = refl
numbers_of_numbers key (n ∷ ns) = ap (λ x. n ∷ x) (numbers_of_numbers key ns)

pub entries_of_numbers : (key ns : List ℕ) → entries_of (map (number key) ns) ≡ []
unfolding entries_of
entries_of_numbers key [] = refl
entries_of_numbers key (n ∷ ns) = entries_of_numbers key ns

pub numbers_of_entries : (es : List Decision) → numbers_of (map entry es) ≡ []
unfolding numbers_of
numbers_of_entries [] = refl
numbers_of_entries (e ∷ es) = numbers_of_entries es

pub entries_of_entries : (es : List Decision) → entries_of (map entry es) ≡ es
unfolding entries_of
entries_of_entries [] = refl
entries_of_entries (e ∷ es) = ap (λ x. e ∷ x) (entries_of_entries es)

-- one value more
module _ (vs : List Value) where
  pub numbers_number : (key : List ℕ) (n : ℕ) → numbers_of (vs ++ (number key n ∷ [])) ≡ numbers_of vs ++ (n ∷ [])
  unfolding numbers_of
  numbers_number key n = numbers_append vs (number key n ∷ [])

  pub entries_number : (key : List ℕ) (n : ℕ) → entries_of (vs ++ (number key n ∷ [])) ≡ entries_of vs
  unfolding entries_of
  entries_number key n = entries_append vs (number key n ∷ []) ∙ append-nil (entries_of vs)

  pub numbers_entry : (e : Decision) → numbers_of (vs ++ (entry e ∷ [])) ≡ numbers_of vs
  unfolding numbers_of
  numbers_entry e = numbers_append vs (entry e ∷ []) ∙ append-nil (numbers_of vs)

  pub entries_entry : (e : Decision) → entries_of (vs ++ (entry e ∷ [])) ≡ entries_of vs ++ (e ∷ [])
  unfolding entries_of
  entries_entry e = entries_append vs (entry e ∷ [])
