-- Note is R1, issue is R2, and taking a record is this machine's part of R3. Assumes nothing.
use Prim.Native.Nat.{ℕ, zero, suc, ◌+◌, ◌-◌, ◌≤◌, ◌<◌}
use native.Mathlib.Numerals.{add-one}
use native.Mathlib.Omega.{arith}
use mathlib.Core.Bool.{true}
use mathlib.Core.List.{List, [], ◌∷◌, ◌++◌, map, map-append}
use mathlib.Core.Option.{Option, some}
use mathlib.Core.Path.{◌≡◌, refl, sym, ap, ◌∙◌}
use Rattle.std.proofs.lemmas.List.{drop-take}
use Rattle.std.specs.List.{drop-map}
use lib.ListN.{length, get_or, set, take, drop, replicate, length-drop}
use lib.Seq.{take-suc-set, take-append-le}
use lib.Dec.{ltb, eqb}
use borrow.Author.Tests.{ltb-true}
use Rattle.basics.proofs.Choice.{and_both}
use Rattle.operation.specs.Limits.{Limits}
use Rattle.operation.specs.Packing.{unpacked, packed, empty, nothing}
use Rattle.operation.specs.declared.Packed.{Packed}
use Rattle.operation.proofs.Packing.{unpacked_packed, same_is}
use Rattle.effect.specs.Running.{outcome, came}
use Rattle.effect.specs.Replaying.{after, replay, queued}
use Rattle.machine.specs.Queueing.{advanced}
use Rattle.machine.specs.Issuing.{sold}
use Rattle.machine.specs.Noting.{written}
use Rattle.machine.specs.Recording.{own_taken, other_taken, ran_agreed, as_issued}
use Rattle.machine.specs.Copying.{copied}
use Rattle.machine.specs.Guesstimate.{Shared, effect_of_all, Append, AllButFirst, R1, R2, R3_own, R3_other}
use Rattle.machine.specs.Viewing.{Cells, Local, shared, sale, noting, view, Copy}
use Rattle.machine.specs.declared.Machine.{Machine}

-- the queue after one has joined, and after some have left
queued_joined :
    (l : Limits) (n : ℕ) (queue : List Packed) (op : List ℕ) → n < length queue →
    queued (n + 1) (set queue n (packed l op)) ≡ queued n queue ++ (op ∷ [])
queued_joined l n queue op h = rw (add-one, take-suc-set queue n (packed l op) h, map-append, unpacked_packed l op)

queued_left :
    (l : Limits) (n waiting : ℕ) (queue : List Packed) → n ≤ waiting → waiting ≤ length queue →
    queued (waiting - n) (advanced l n queue) ≡ drop n (queued waiting queue)
unfolding advanced
queued_left l n waiting queue a b =
    let k : n + (waiting - n) ≡ waiting = omega arith in
    let t : take (waiting - n) (drop n queue ++ replicate n (empty l)) ≡ take (waiting - n) (drop n queue) =
    take-append-le (waiting - n) (drop n queue) (replicate n (empty l)) (simp length-drop (omega arith)) in
    ap (map unpacked) (t ∙ sym (rw k at (drop-take n (waiting - n) queue))) ∙ sym (drop-map unpacked n (take waiting queue))

but_first : {A : Type 0} (xs : List A) → drop 1 xs ≡ AllButFirst Cells Local xs
but_first [] = refl
but_first (x ∷ xs) = refl

front_is :
    (n : ℕ) (queue : List Packed) → 1 ≤ n → n ≤ length queue →
    queued n queue ≡ unpacked (get_or queue 0 nothing) ∷ drop 1 (queued n queue)
front_is zero queue a b = absurd (omega arith)
front_is (suc n) [] a b = absurd (omega arith)
front_is (suc n) (x ∷ queue) a b = refl

-- replaying is the effect of the sequence
replay_is :
    (l : Limits) (width : ℕ) (ops : List (List ℕ)) (σ : List ℕ) →
    replay l width ops σ ≡ effect_of_all Cells Local (map (sale l width) ops) σ
unfolding replay effect_of_all after
replay_is l width [] σ = refl
replay_is l width (op ∷ ops) σ = replay_is l width ops (after l width op σ)

module _ (l : Limits) (C : List (Shared Cells Local)) (m : Machine) where
  pub note_is_R1 : (k i : ℕ) → view l C (written m k i).machine ≡ R1 Cells Local (noting k i) (view l C m)
  unfolding written
  note_is_R1 k i = refl

  -- where the guard of R2 holds
  pub issue_is_R2 :
      (op guess : List ℕ) → m.waiting < length m.queue → outcome l m.width op m.guess ≡ some guess →
      (shared l m.width op m.guess ≡ (guess, true)) × (view l C (sold l m op guess).machine ≡ R2 Cells Local
      (sale l m.width op) (view l C m))
  unfolding sold
  issue_is_R2 op guess h e = (rw e, go (outcome l m.width op m.guess) e)
    where
      pending :
          map (sale l m.width) (queued (m.waiting + 1) (set m.queue m.waiting (packed l op))) ≡ map
          (sale l m.width) (queued m.waiting m.queue) ++ (sale l m.width op ∷ [])
      pending =
          ap (map (sale l m.width)) (queued_joined l m.waiting m.queue op h) ∙ map-append
          (sale l m.width) (queued m.waiting m.queue) (op ∷ [])

      go : (o : Option (List ℕ)) → o ≡ some guess → view l C (sold l m op guess).machine ≡ record {
        γ = record { notes = m.notes; kept = m.kept; lost = m.lost };
        C = C;
        σc = m.agreed;
        P = map (sale l m.width) (queued m.waiting m.queue) ++ (sale l m.width op ∷ []);
        σg = (came m.guess o).cells;
      }
      go o e = rw (e, pending)

  pub other_is_R3 :
      (op : List ℕ) → view l (Append Cells Local C (shared l m.width op))
      (other_taken l m (ran_agreed l m op).cells).machine ≡
      R3_other Cells Local (shared l m.width op) (view l C m)
  unfolding other_taken
  other_is_R3 op = rw (replay_is l m.width (queued m.waiting m.queue) (ran_agreed l m op).cells)

  -- an own record that is as issued is First(P)
  pub own_is_first :
      (number : ℕ) (op : List ℕ) → as_issued m number op ≡ true → m.waiting ≤ length m.queue →
      (view l C m).P ≡ sale l m.width op ∷ AllButFirst Cells Local (view l C m).P
  unfolding as_issued
  own_is_first number op h b =
      let (waits, rest) = and_both (ltb 0 m.waiting) _ h in
      let (numbered, same) = and_both (eqb number m.done) _ rest in
      let q = front_is m.waiting m.queue (ltb-true 0 m.waiting waits) b in
      let o = same_is (unpacked (get_or m.queue 0 nothing)) op same in
      ap (map (sale l m.width)) (q ∙ ap (λ x. x ∷ drop 1 (queued m.waiting m.queue)) o) ∙
      ap (λ xs. sale l m.width op ∷ xs)
      (sym (drop-map (sale l m.width) 1 (queued m.waiting m.queue)) ∙ but_first
      (map (sale l m.width) (queued m.waiting m.queue)))

  pub own_is_R3 :
      (op : List ℕ) → 1 ≤ m.waiting → m.waiting ≤ length m.queue →
      view l (Append Cells Local C (shared l m.width op)) (own_taken l m (ran_agreed l m op)).machine ≡
      R3_own Cells Local (sale l m.width op) (view l C m)
  unfolding own_taken
  own_is_R3 op a b =
      rw (
        queued_left l 1 m.waiting m.queue a b,
        ← (drop-map (sale l m.width) 1 (queued m.waiting m.queue)),
        but_first (map (sale l m.width) (queued m.waiting m.queue)),
      )

  pub copy_is :
      (D : List (Shared Cells Local)) (position : ℕ) (cells : List ℕ) (n : ℕ) → n ≤ m.waiting → m.waiting ≤ length
      m.queue →
      view l D (copied l m position cells n).machine ≡ Copy D cells n (view l C m)
  unfolding copied
  copy_is D position cells n a b =
      let q = queued_left l n m.waiting m.queue a b in
      let p = ap (map (sale l m.width)) q ∙ sym (drop-map (sale l m.width) n (queued m.waiting m.queue)) in
      rw (replay_is l m.width (queued (m.waiting - n) (advanced l n m.queue)) cells, p)
