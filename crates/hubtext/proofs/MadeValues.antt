-- The values of the hub that a whole text makes are those of the text. Assumes nothing.
use Prim.Native.Nat.{ℕ, suc, ◌+◌, ◌-◌, ◌≤◌, ◌<◌}
use native.Mathlib.Omega.{arith}
use mathlib.Core.List.{List, [], ◌∷◌, ◌++◌, map, append_assoc}
use mathlib.Core.Path.{◌≡◌, refl, sym, ap, ap₂, subst, ◌∙◌}
use lib.ListN.{length, get_or, take, drop, replicate, take-append-drop}
use lib.Seq.{take_at, take-length, drop-drop}
use Rattle.basics.specs.Over.{over}
use Rattle.operation.specs.Limits.{Limits}
use Rattle.operation.proofs.Packing.{unpacked_packed}
use Rattle.effect.specs.Running.{filled}
use Rattle.state.specs.Numbers.{most_machines}
use Rattle.hub.specs.Ring.{total, record_at}
use Rattle.hub.specs.History.{Decision, no_decision}
use Rattle.hub.specs.declared.Hub.{Hub}
use Rattle.hub.specs.declared.Record.{Record}
use Rattle.hubtext.specs.Keys.{form=, machines=, cells=, cell=, next=}
use Rattle.hubtext.specs.Values.{number, entry, machines_in, width_in, cells_in, nexts_in}
use Rattle.hubtext.specs.Writing.{entry_of, entries_from, kept_entries, values_of}
use Rattle.hubtext.specs.Reading.{made}
use Rattle.hubtext.proofs.Arranged.{key_at, keyed, arranged, key_cell, key_next}
use Rattle.hubtext.proofs.Complete.{Whole}
use Rattle.hubtext.proofs.PlacedRecords.{entered}
use Rattle.hubtext.proofs.MadeHubs.{at, records_count, nexts_long, cells_long}

-- numbers with their keys: one list after another, cells, and nexts
pub keyed_append :
    (w i : ℕ) (xs ys : List ℕ) → keyed w i (xs ++ ys) ≡ keyed w i xs ++ keyed w (i + length xs) ys
unfolding keyed
keyed_append w i [] ys = let z : i ≡ i + 0 = omega arith in ap (λ k. keyed w k ys) z
keyed_append w i (x ∷ xs) ys =
    let z : i + 1 + length xs ≡ i + suc (length xs) = omega arith in
    ap (λ v. number (key_at w i) x ∷ v) (keyed_append w (i + 1) xs ys ∙ ap (λ k. keyed w (i + 1) xs ++ keyed w k ys) z)

pub keyed_cells :
    (w i : ℕ) (xs : List ℕ) → 3 ≤ i → i + length xs ≤ 3 + w → keyed w i xs ≡ map (number cell=) xs
unfolding keyed
keyed_cells w i [] h k = refl
keyed_cells w i (x ∷ xs) h k =
    rw (sym (key_cell w i h (omega (arith, k))), keyed_cells w (i + 1) xs (omega (arith, h)) (omega (arith, k)))

pub keyed_nexts : (w i : ℕ) (xs : List ℕ) → 3 + w ≤ i → keyed w i xs ≡ map (number next=) xs
unfolding keyed
keyed_nexts w i [] h = refl
keyed_nexts w i (x ∷ xs) h =
    rw (sym (key_next w i (omega (arith, h)) h), keyed_nexts w (i + 1) xs (omega (arith, h)))

-- the first three numbers, and the others
three_first :
    (w : ℕ) (ns : List ℕ) → 3 ≤ length ns →
    keyed w 0 ns ≡
    number form= (get_or ns 0 0) ∷ number machines= (get_or ns 1 0) ∷ number cells= (get_or ns 2 0) ∷ keyed w 3 (drop 3 ns)
unfolding keyed key_at
three_first w [] h = absurd (omega (arith, h))
three_first w (a ∷ []) h = absurd (omega (arith, h))
three_first w (a ∷ b ∷ []) h = absurd (omega (arith, h))
three_first w (a ∷ b ∷ c ∷ ns) h = refl

-- the front of a list with zeros after it
pub front_is : (xs d : List ℕ) (n : ℕ) → length xs ≡ n → take n (over (length xs) xs d) ≡ xs
front_is xs d n e =
    rw (take-length xs) (take_at xs (drop (length xs) d) n e)

-- entries that the records are
entries_are :
    (rs : List Record) (n : ℕ) (es : List Decision) →
    ((i : ℕ) → i < length es → entry_of (record_at rs (n + i)) ≡ get_or es i no_decision) →
    entries_from rs n (length es) ≡ es
unfolding entries_from
entries_are rs n [] h = refl
entries_are rs n (e ∷ es) h =
    ap₂ (λ (x : Decision) (y : List Decision). x ∷ y)
    (let z : n ≡ n + 0 = omega arith in ap (λ k. entry_of (record_at rs k)) z ∙ h 0 (omega arith))
    (entries_are rs (n + 1) es
    (λ i k. let z : n + 1 + i ≡ n + suc i = omega arith in
    ap (λ x. entry_of (record_at rs x)) z ∙ h (suc i) (omega (arith, k))))

module _ (l : Limits) (ns : List ℕ) (es : List Decision) (whole : Whole l ns es) where
  abbrev h : Hub
  h = made l ns es

  kept_are : kept_entries h ≡ es
  kept_are =
      subst (λ (k : ℕ). entries_from h.records (total h.next - k) k ≡ es) (records_count l ns es whole)
      (entries_are h.records (total h.next - length es) es
      (λ i k. ap entry_of (at l ns es whole i k) ∙ same (get_or es i no_decision) (drop (suc i) es)))
    where
      same : (e : Decision) (later : List Decision) → entry_of (entered l h.next e later) ≡ e
      same e later = ap (λ x. record { machine = e.machine; op = x }) (unpacked_packed l e.op)

  cells_are : take h.width h.cells ≡ cells_in ns
  unfolding filled
  cells_are = front_is (cells_in ns) (replicate l.cells 0) (width_in ns) (cells_long l ns es whole)

  nexts_are : take h.machines h.next ≡ nexts_in ns
  nexts_are = front_is (nexts_in ns) (replicate most_machines 0) (machines_in ns) (nexts_long l ns es whole)

  rest_is : keyed (width_in ns) 3 (drop 3 ns) ≡ map (number cell=) (cells_in ns) ++ map (number next=) (nexts_in ns)
  rest_is =
      ap (keyed (width_in ns) 3) (sym (take-append-drop (width_in ns) (drop 3 ns))) ∙
      (keyed_append (width_in ns) 3 (cells_in ns) (drop (width_in ns) (drop 3 ns)) ∙
      rw (
        keyed_cells (width_in ns) 3 (cells_in ns) (omega arith) (omega (arith, cells_long l ns es whole)),
        keyed_nexts (width_in ns) (3 + length (cells_in ns)) (drop (width_in ns) (drop 3 ns))
            (omega (arith, cells_long l ns es whole)),
      )
      (ap (λ x. map (number cell=) (cells_in ns) ++ map (number next=) x) (drop-drop (width_in ns) 3 ns)))

  pub made_values : values_of h ≡ arranged ns es
  unfolding values_of
  made_values =
      rw (kept_are, cells_are, nexts_are, three_first (width_in ns) ns whole.three, rest_is, form_one)
      (ap (λ x. number form= 1 ∷ number machines= (machines_in ns) ∷ number cells= (width_in ns) ∷ x)
      (sym (append_assoc (map (number cell=) (cells_in ns)) (map (number next=) (nexts_in ns)) (map entry es))))
    where
      form_one : get_or ns 0 0 ≡ 1
      form_one = whole.sofar.form_is (omega (arith, whole.three))
