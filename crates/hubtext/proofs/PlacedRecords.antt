-- The ring that a text's records make: each in its place, under its number. Assumes nothing.
use Prim.Native.Nat.{ℕ, zero, suc, ◌+◌, ◌-◌, ◌%◌, ◌≤◌, ◌<◌}
use native.Mathlib.Decide.{dec_lt, ℕ_discrete}
use native.Mathlib.Omega.{arith}
use mathlib.Core.Bool.{true, ◌&&◌}
use mathlib.Core.List.{List, [], ◌∷◌}
use mathlib.Core.Path.{◌≡◌, refl, sym, ap, subst, ◌∙◌}
use lib.Dec.{eqb}
use lib.ListN.{length, get_or, set, drop, length-set, get_or-eq_default}
use lib.Seq.{get_or-set_same, get_or-set_other, drop-cons}
use borrow.Author.Tests.{eq-eqb, ne_eqb, eqb-true}
use Rattle.std.specs.Prelude.{if◌then◌else◌}
use Rattle.basics.proofs.Choice.{and_both}
use Rattle.operation.specs.Limits.{Limits}
use Rattle.hub.specs.Ring.{most_kept, record_of, no_record, record_at}
use Rattle.hub.specs.Shape.{numbered}
use Rattle.hub.specs.History.{Decision, no_decision, count_of}
use Rattle.hub.specs.declared.Record.{Record}
use Rattle.hub.proofs.KeptRing.{at_new}
use Rattle.hubtext.specs.Reading.{placed}

module _ (l : Limits) (next : List ℕ) where
  -- the record of an entry that so many of its machine's come after
  abbrev pub entered : Decision → List Decision → Record
  entered e later = record_of l e.machine (get_or next e.machine 0 - suc (count_of e.machine later)) e.op

  pub placed_long : (n : ℕ) (es : List Decision) (rs : List Record) → length (placed l next n es rs) ≡ length rs
  unfolding placed
  placed_long n [] rs = refl
  placed_long n (e ∷ es) rs =
      placed_long (n + 1) es (set rs (n % most_kept) (entered e es)) ∙ length-set rs (n % most_kept) (entered e es)

  -- a place that none of them goes to
  pub placed_other :
      (n : ℕ) (es : List Decision) (rs : List Record) (j : ℕ) →
      ((i : ℕ) → i < length es → j ≡ (n + i) % most_kept → ⊥) →
      get_or (placed l next n es rs) j no_record ≡ get_or rs j no_record
  unfolding placed
  placed_other n [] rs j h = refl
  placed_other n (e ∷ es) rs j h =
      placed_other (n + 1) es (set rs (n % most_kept) (entered e es)) j
      (λ i k q. h (suc i) (omega (arith, k)) (let z : n + 1 + i ≡ n + suc i = omega arith in q ∙ ap (λ x. x %
      most_kept) z)) ∙
      get_or-set_other rs (n % most_kept) j (entered e es) no_record
      (λ q. h 0 (omega arith) (let z : n ≡ n + 0 = omega arith in q ∙ ap (λ x. x % most_kept) z))

  -- each in its place
  pub placed_at :
      (n : ℕ) (es : List Decision) (rs : List Record) → length rs ≡ most_kept → length es ≤ most_kept → (i : ℕ) →
      i < length es →
      record_at (placed l next n es rs) (n + i) ≡ entered (get_or es i no_decision) (drop (suc i) es)
  unfolding placed
  placed_at n [] rs sized few i h = absurd (omega (arith, h))
  placed_at n (e ∷ es) rs sized few zero h =
      let z : n + 0 ≡ n = omega arith in
      ap (record_at (placed l next (n + 1) es rs')) z ∙
      (placed_other (n + 1) es rs' (n % most_kept) (λ i k q. omega (arith, q, k, few)) ∙
      at_new rs n (entered e es) sized)
    where
      rs' : List Record
      rs' = set rs (n % most_kept) (entered e es)
  placed_at n (e ∷ es) rs sized few (suc i) h =
      let z : n + suc i ≡ n + 1 + i = omega arith in
      ap (record_at (placed l next (n + 1) es (set rs (n % most_kept) (entered e es)))) z ∙
      placed_at (n + 1) es (set rs (n % most_kept) (entered e es))
      (length-set rs (n % most_kept) (entered e es) ∙ sized) (omega (arith, few)) i (omega (arith, h))

  -- how many of a machine come from place i on
  count_from :
      (m : ℕ) (es : List Decision) (i : ℕ) → i < length es →
      count_of m (drop i es) ≡
      (if eqb (get_or es i no_decision).machine m then 1 else 0) + count_of m (drop (suc i) es)
  unfolding count_of
  count_from m es i h = ap (count_of m) (drop-cons es i no_decision h)

  count_less : (m : ℕ) (es : List Decision) (i : ℕ) → count_of m (drop i es) ≤ count_of m es
  unfolding count_of
  count_less m [] zero = omega arith
  count_less m [] (suc i) = omega arith
  count_less m (e ∷ es) zero = omega arith
  count_less m (e ∷ es) (suc i) = omega (arith, count_less m es i)

  -- records that are each entered are numbered
  pub entered_numbered :
      (rs : List Record) (n : ℕ) (es : List Decision) →
      ((i : ℕ) → i < length es → record_at rs (n + i) ≡ entered (get_or es i no_decision) (drop (suc i) es)) →
      ((m : ℕ) → count_of m es ≤ get_or next m 0) → (k : ℕ) → k ≤ length es → (left : List ℕ) →
      ((m : ℕ) → get_or left m 0 ≡ get_or next m 0 - count_of m (drop k es)) → numbered rs k (n + k) left ≡ true
  unfolding numbered
  entered_numbered rs n es at room zero h left are = refl
  entered_numbered rs n es at room (suc k) h left are =
      subst
      (λ (x : Record). eqb (get_or left x.machine 0) (x.number + 1) &&
      numbered rs k (n + suc k - 1) (set left x.machine x.number) ≡ true)
      (sym (ap (record_at rs) z ∙ at k (omega arith)))
      (rw (eq-eqb (get_or left m 0) (number + 1) follows_on, z)
      (entered_numbered rs n es at room k (omega arith) (set left m number) still))
    where
      z : n + suc k - 1 ≡ n + k
      z = omega arith

      e : Decision
      e = get_or es k no_decision

      m : ℕ
      m = e.machine

      later : ℕ
      later = count_of m (drop (suc k) es)

      number : ℕ
      number = get_or next m 0 - suc later

      -- this one is counted, and there was room for it
      own : count_of m (drop k es) ≡ 1 + later
      own = count_from m es k (omega arith) ∙ rw (eq-eqb m m refl)

      enough : later < get_or next m 0
      enough = omega (arith, own, count_less m es k, room m)

      follows_on : get_or left m 0 ≡ number + 1
      follows_on = are m ∙ omega (arith, enough)

      there : m < length left
      there = go (dec_lt m (length left))
        where
          go : Dec (m < length left) → m < length left
          go (yes q) = q
          go (no q) =
              let past : length left ≤ m = omega (arith, q) in
              let zero-there : get_or left m 0 ≡ 0 = get_or-eq_default left 0 past in
              absurd (omega (arith, zero-there, follows_on))

      still : (x : ℕ) → get_or (set left m number) x 0 ≡ get_or next x 0 - count_of x (drop k es)
      still x = go (ℕ_discrete x m)
        where
          go : Dec (x ≡ m) → get_or (set left m number) x 0 ≡ get_or next x 0 - count_of x (drop k es)
          go (yes q) =
              subst (λ (y : ℕ). get_or (set left m number) y 0 ≡ get_or next y 0 - count_of y (drop k es)) (sym q)
              (let o : suc later ≡ count_of m (drop k es) = omega (arith, own) in
              get_or-set_same left m number 0 there ∙ ap (λ c. get_or next m 0 - c) o)
          go (no q) =
              get_or-set_other left m x number 0 q ∙ (are x ∙ ap (λ c. get_or next x 0 - c)
              (sym (count_from x es k (omega arith) ∙ rw (ne_eqb m x (λ p. q (sym p))) (omega arith))))

  -- and records that are numbered are each under the number that it is entered with
  pub record Entered (rs : List Record) (n : ℕ) (es : List Decision) (k : ℕ) : Type 0 where
    pub numbers :
        (i : ℕ) → i < k →
        (record_at rs (n + i)).number ≡
        get_or next (record_at rs (n + i)).machine 0 - suc (count_of (record_at rs (n + i)).machine (drop (suc i) es))
    pub room : (m : ℕ) → count_of m es ≤ get_or next m 0

  pub numbered_entered :
      (rs : List Record) (n : ℕ) (es : List Decision) →
      ((i : ℕ) → i < length es → (get_or es i no_decision).machine ≡ (record_at rs (n + i)).machine) → (k : ℕ) →
      k ≤ length es → (left : List ℕ) → ((m : ℕ) → get_or left m 0 ≡ get_or next m 0 - count_of m (drop k es)) →
      ((m : ℕ) → count_of m (drop k es) ≤ get_or next m 0) → numbered rs k (n + k) left ≡ true → Entered rs n es k
  unfolding numbered
  numbered_entered rs n es own zero h left are below e =
      record { numbers = λ i q. absurd (omega (arith, q)); room = λ m. below m }
  numbered_entered rs n es own (suc k) h left are below e =
      let rest = numbered_entered rs n es own k (omega arith) (set left m r.number) still below_now both.1 in
      record { numbers = all rest; room = rest.room }
    where
      z : n + suc k - 1 ≡ n + k
      z = omega arith

      r : Record
      r = record_at rs (n + k)

      m : ℕ
      m = r.machine

      later : ℕ
      later = count_of m (drop (suc k) es)

      both : (eqb (get_or left m 0) (r.number + 1) ≡ true) × (numbered rs k (n + k) (set left m r.number) ≡ true)
      both =
          and_both (eqb (get_or left m 0) (r.number + 1)) (numbered rs k (n + k) (set left m r.number)) (rw z at e)

      follows_on : get_or left m 0 ≡ r.number + 1
      follows_on = eqb-true (get_or left m 0) (r.number + 1) both.0

      counted : count_of m (drop k es) ≡ 1 + later
      counted = count_from m es k (omega arith) ∙ rw (eq-eqb (get_or es k no_decision).machine m (own k (omega arith)))

      number_is : r.number ≡ get_or next m 0 - suc later
      number_is = omega (arith, follows_on, are m)

      there : m < length left
      there = go (dec_lt m (length left))
        where
          go : Dec (m < length left) → m < length left
          go (yes q) = q
          go (no q) =
              let past : length left ≤ m = omega (arith, q) in
              let zero-there : get_or left m 0 ≡ 0 = get_or-eq_default left 0 past in
              absurd (omega (arith, zero-there, follows_on))

      other : (x : ℕ) → (x ≡ m → ⊥) → count_of x (drop k es) ≡ count_of x (drop (suc k) es)
      other x q =
          count_from x es k (omega arith) ∙ rw
          (ne_eqb (get_or es k no_decision).machine x (λ p. q (sym p ∙ own k (omega arith)))) (omega arith)

      still : (x : ℕ) → get_or (set left m r.number) x 0 ≡ get_or next x 0 - count_of x (drop k es)
      still x = go (ℕ_discrete x m)
        where
          go : Dec (x ≡ m) → get_or (set left m r.number) x 0 ≡ get_or next x 0 - count_of x (drop k es)
          go (yes q) =
              subst (λ (y : ℕ). get_or (set left m r.number) y 0 ≡ get_or next y 0 - count_of y (drop k es)) (sym q)
              (let o : suc later ≡ count_of m (drop k es) = omega (arith, counted) in
              get_or-set_same left m r.number 0 there ∙ (number_is ∙ ap (λ c. get_or next m 0 - c) o))
          go (no q) =
              get_or-set_other left m x r.number 0 q ∙ (are x ∙ ap (λ c. get_or next x 0 - c) (sym (other x q)))

      below_now : (x : ℕ) → count_of x (drop k es) ≤ get_or next x 0
      below_now x = go (ℕ_discrete x m)
        where
          go : Dec (x ≡ m) → count_of x (drop k es) ≤ get_or next x 0
          go (yes q) =
              subst (λ (y : ℕ). count_of y (drop k es) ≤ get_or next y 0) (sym q)
              (omega (arith, counted, follows_on, are m))
          go (no q) = rw (other x q) (below x)

      all :
          Entered rs n es k → (i : ℕ) → i < suc k →
          (record_at rs (n + i)).number ≡
          get_or next (record_at rs (n + i)).machine 0 - suc (count_of (record_at rs (n + i)).machine (drop (suc i) es))
      all rest i q = go (ℕ_discrete i k)
        where
          go :
              Dec (i ≡ k) →
              (record_at rs (n + i)).number ≡
              get_or next (record_at rs (n + i)).machine 0 - suc (count_of (record_at rs (n + i)).machine (drop (suc
              i) es))
          go (yes p) =
              subst
              (λ (y : ℕ). (record_at rs (n + y)).number ≡
              get_or next (record_at rs (n + y)).machine 0 - suc
              (count_of (record_at rs (n + y)).machine (drop (suc y) es))) (sym p) number_is
          go (no p) = rest.numbers i (omega (arith, q, p))
