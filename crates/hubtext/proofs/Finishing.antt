-- Whatever was read of a hub's text can be gone on with to the end. Assumes nothing.
use Prim.Native.Nat.{ℕ, zero, suc, ◌+◌, ◌-◌, ◌≤◌, ◌<◌, zero-le}
use native.Mathlib.Decide.{dec_lt}
use native.Mathlib.Omega.{arith}
use mathlib.Core.Bool.{true, false}
use mathlib.Core.List.{List, [], ◌∷◌, ◌++◌}
use mathlib.Core.Path.{◌≡◌, ap}
use lib.ListN.{length, get_or, length-append, length-drop, get_or-eq_default}
use borrow.Author.Tests.{lt-ltb}
use Rattle.operation.specs.Limits.{Limits}
use Rattle.operation.specs.Reading.{well_formed}
use Rattle.state.specs.Numbers.{most_machines, most_issued}
use Rattle.lines.specs.Texts.{Reads, Chain, step, After, all, also}
use Rattle.lines.proofs.Hexes.{Bytes}
use Rattle.lines.proofs.Exact.{Lawful}
use Rattle.hub.specs.Ring.{total, kept_count}
use Rattle.hub.specs.History.{Decision, count_of}
use Rattle.hubtext.specs.Keys.{form=, machines=, cells=, cell=, next=}
use Rattle.hubtext.specs.Values.{Value, number, entry, numbers_of, entries_of, machines_in, width_in, nexts_in}
use Rattle.hubtext.specs.Reading.{field_line, record_line, want, is_none, fits, hub_form}
use Rattle.hubtext.proofs.Values.{numbers_number, numbers_entry, entries_entry}
use Rattle.hubtext.proofs.NextLine.{number_reads, entry_reads, line_read}
use Rattle.hubtext.proofs.Stages.{
  Stage,
  at_form,
  at_machines,
  at_cells,
  at_cell,
  at_next,
  at_record,
  at_end,
  stage,
}
use Rattle.hubtext.proofs.Sofar.{Sofar, longer, number_old}
use Rattle.hubtext.proofs.Reached.{reached}
use Rattle.hubtext.proofs.Room.{has_room}

-- a text can be finished after these values
abbrev Ends : Limits → List Value → Type 0
Ends l vs = (ws : List Value) × After (hub_form l) vs ws

-- the empty ATOMIC
abbrev free : List ℕ
free = 16 ∷ 0 ∷ []

free_bytes : Bytes free
unfolding Bytes
free_bytes = (omega arith, (omega arith, tt))

module _ (l : Limits) (two : 2 ≤ l.bytes) (formed : (w : ℕ) → w ≤ l.cells → well_formed l w free ≡ true) where
  -- one value more
  ends_more :
      (vs : List Value) (v : Value) → (hub_form l).done vs ≡ false → Reads (hub_form l) vs v → Ends l (vs ++ (v ∷ [])) →
      Ends l vs
  ends_more vs v d r e = (v ∷ e.0, also v d r e.1)

  -- a record that may come next
  next_record :
      (vs : List Value) → Chain (hub_form l) vs → 3 ≤ length (numbers_of vs) →
      length (entries_of vs) < kept_count (total (nexts_in (numbers_of vs))) →
      want l (numbers_of vs) (length (entries_of vs)) ≡ record_line →
      (e : Decision) × Reads (hub_form l) vs (entry e)
  unfolding fits
  next_record vs c three more w = (record { machine = m; op = free }, entry_reads l vs _ w below free_bytes two fit)
    where
      ns : List ℕ
      ns = numbers_of vs

      s : Sofar l ns (entries_of vs)
      s = reached l vs c

      found : (m : ℕ) × (count_of m (entries_of vs) < get_or (nexts_in ns) m 0)
      found = has_room (nexts_in ns) (entries_of vs) (omega (arith, more))

      m : ℕ
      m = found.0

      there : m < length (nexts_in ns)
      there = go (dec_lt m (length (nexts_in ns)))
        where
          go : Dec (m < length (nexts_in ns)) → m < length (nexts_in ns)
          go (yes h) = h
          go (no h) =
              let past : length (nexts_in ns) ≤ m = omega (arith, h) in
              let z : get_or (nexts_in ns) m 0 ≡ 0 = get_or-eq_default (nexts_in ns) 0 past in
              absurd (omega (arith, found.1, z))

      below : m ≤ machines_in ns - 1
      below = omega (arith, there, length-drop (3 + width_in ns) ns, s.few three)

      fit : fits l ns (entries_of vs) (record { machine = m; op = free }) ≡ true
      fit = simp (lt-ltb _ _ found.1, formed (width_in ns) (s.width_fits three).1)

  -- the records that are left
  records_left :
      (k : ℕ) (vs : List Value) → Chain (hub_form l) vs → 3 ≤ length (numbers_of vs) →
      3 + width_in (numbers_of vs) + machines_in (numbers_of vs) ≤ length (numbers_of vs) →
      kept_count (total (nexts_in (numbers_of vs))) ≤ length (entries_of vs) + k → Ends l vs
  records_left zero vs c three whole h = go (stage l (numbers_of vs) (length (entries_of vs)))
    where
      go : Stage l (numbers_of vs) (length (entries_of vs)) → Ends l vs
      go (at_form q w) = absurd (omega (arith, q, three))
      go (at_machines q w) = absurd (omega (arith, q, three))
      go (at_cells q w) = absurd (omega (arith, q, three))
      go (at_cell q b w) = absurd (omega (arith, b, whole))
      go (at_next q b d w) = absurd (omega (arith, d, whole))
      go (at_record q b d w) = absurd (omega (arith, d, h))
      go (at_end q b d w) = ([], all (ap (is_none l) w))
  records_left (suc k) vs c three whole h =
      go (λ e d r a b f. records_left k (vs ++ (entry e ∷ [])) (step (entry e) c d r) a b f)
      (stage l (numbers_of vs) (length (entries_of vs)))
    where
      go :
          ((e : Decision) → (hub_form l).done vs ≡ false → Reads (hub_form l) vs (entry e) →
          3 ≤ length (numbers_of (vs ++ (entry e ∷ []))) →
          3 + width_in (numbers_of (vs ++ (entry e ∷ []))) + machines_in (numbers_of (vs ++ (entry e ∷ []))) ≤
          length (numbers_of (vs ++ (entry e ∷ []))) →
          kept_count (total (nexts_in (numbers_of (vs ++ (entry e ∷ []))))) ≤
          length (entries_of (vs ++ (entry e ∷ []))) + k → Ends l (vs ++ (entry e ∷ []))) →
          Stage l (numbers_of vs) (length (entries_of vs)) → Ends l vs
      go ih (at_form q w) = absurd (omega (arith, q, three))
      go ih (at_machines q w) = absurd (omega (arith, q, three))
      go ih (at_cells q w) = absurd (omega (arith, q, three))
      go ih (at_cell q b w) = absurd (omega (arith, b, whole))
      go ih (at_next q b d w) = absurd (omega (arith, d, whole))
      go ih (at_record q b d w) =
          let (e, r) = next_record vs c three d w in
          let done = ap (is_none l) w in
          let one = length-append (entries_of vs) (e ∷ []) in
          ends_more vs (entry e) done r
          (ih e done r (rw (numbers_entry vs e) three) (rw (numbers_entry vs e) whole)
          (rw (numbers_entry vs e, entries_entry vs e) (omega (arith, one, h))))
      go ih (at_end q b d w) = ([], all (ap (is_none l) w))

  -- a number that is wanted may come next
  next_number :
      (vs : List Value) (key : List ℕ) (low top n : ℕ) → Chain (hub_form l) vs →
      want l (numbers_of vs) (length (entries_of vs)) ≡ field_line key low top → low ≤ n → n ≤ top →
      (Chain (hub_form l) (vs ++ (number key n ∷ [])) → Ends l (vs ++ (number key n ∷ []))) → Ends l vs
  next_number vs key low top n c w a b go =
      let r = number_reads l vs key low top n w a b in
      let d = ap (is_none l) w in
      ends_more vs (number key n) d r (go (step (number key n) c d r))

  -- the counts and nexts that are left: each 0
  numbers_left :
      (k : ℕ) (vs : List Value) → Chain (hub_form l) vs → 3 ≤ length (numbers_of vs) →
      3 + width_in (numbers_of vs) + machines_in (numbers_of vs) ≤ length (numbers_of vs) + k → Ends l vs
  numbers_left zero vs c three h =
      records_left (kept_count (total (nexts_in (numbers_of vs)))) vs c three (omega (arith, h)) (omega arith)
  numbers_left (suc k) vs c three h =
      go (λ key d a b. numbers_left k (vs ++ (number key 0 ∷ [])) d a b)
      (stage l (numbers_of vs) (length (entries_of vs)))
    where
      ns : List ℕ
      ns = numbers_of vs

      still : 3 ≤ length (ns ++ (0 ∷ []))
      still = omega (arith, three, longer ns 0)

      less :
          3 + width_in (ns ++ (0 ∷ [])) + machines_in (ns ++ (0 ∷ [])) ≤ length (ns ++ (0 ∷ [])) + k
      less =
          rw (number_old ns 0 2 (omega (arith, three)), number_old ns 0 1 (omega (arith, three)), longer ns 0)
          (omega (arith, h))

      go :
          ((key : List ℕ) → Chain (hub_form l) (vs ++ (number key 0 ∷ [])) →
          3 ≤ length (numbers_of (vs ++ (number key 0 ∷ []))) →
          3 + width_in (numbers_of (vs ++ (number key 0 ∷ []))) + machines_in (numbers_of (vs ++ (number key 0 ∷ []))) ≤
          length (numbers_of (vs ++ (number key 0 ∷ []))) + k → Ends l (vs ++ (number key 0 ∷ []))) →
          Stage l ns (length (entries_of vs)) → Ends l vs
      go ih (at_form q w) = absurd (omega (arith, q, three))
      go ih (at_machines q w) = absurd (omega (arith, q, three))
      go ih (at_cells q w) = absurd (omega (arith, q, three))
      go ih (at_cell q b w) =
          next_number vs cell= 0 l.held 0 c w zero-le zero-le
          (λ d. ih cell= d (rw (numbers_number vs cell= 0) still) (rw (numbers_number vs cell= 0) less))
      go ih (at_next q b d w) =
          next_number vs next= 0 most_issued 0 c w zero-le zero-le
          (λ x. ih next= x (rw (numbers_number vs next= 0) still) (rw (numbers_number vs next= 0) less))
      go ih (at_record q b d w) =
          records_left (kept_count (total (nexts_in ns))) vs c three b (omega arith)
      go ih (at_end q b d w) =
          records_left (kept_count (total (nexts_in ns))) vs c three b (omega arith)

  -- the first three lines
  module _ (one : 1 ≤ l.cells) where
    after_two : (vs : List Value) → Chain (hub_form l) vs → length (numbers_of vs) ≡ 2 → Ends l vs
    after_two vs c h = go (stage l (numbers_of vs) (length (entries_of vs)))
      where
        ns : List ℕ
        ns = numbers_of (vs ++ (number cells= 1 ∷ []))

        three : 3 ≤ length ns
        three = rw (numbers_number vs cells= 1) (omega (arith, h, longer (numbers_of vs) 1))

        go : Stage l (numbers_of vs) (length (entries_of vs)) → Ends l vs
        go (at_form q w) = absurd (omega (arith, q, h))
        go (at_machines q w) = absurd (omega (arith, q, h))
        go (at_cells q w) =
            next_number vs cells= 1 l.cells 1 c w (omega arith) one
            (λ d. numbers_left (3 + width_in ns + machines_in ns) (vs ++ (number cells= 1 ∷ [])) d three (omega arith))
        go (at_cell q b w) = absurd (omega (arith, q, h))
        go (at_next q b d w) = absurd (omega (arith, q, h))
        go (at_record q b d w) = absurd (omega (arith, q, h))
        go (at_end q b d w) = absurd (omega (arith, q, h))

    after_one : (vs : List Value) → Chain (hub_form l) vs → length (numbers_of vs) ≡ 1 → Ends l vs
    after_one vs c h = go (stage l (numbers_of vs) (length (entries_of vs)))
      where
        two_now : length (numbers_of (vs ++ (number machines= 1 ∷ []))) ≡ 2
        two_now = rw (numbers_number vs machines= 1) (omega (arith, h, longer (numbers_of vs) 1))

        go : Stage l (numbers_of vs) (length (entries_of vs)) → Ends l vs
        go (at_form q w) = absurd (omega (arith, q, h))
        go (at_machines q w) =
            next_number vs machines= 1 most_machines 1 c w (omega arith) (omega arith)
            (λ d. after_two (vs ++ (number machines= 1 ∷ [])) d two_now)
        go (at_cells q w) = absurd (omega (arith, q, h))
        go (at_cell q b w) = absurd (omega (arith, q, h))
        go (at_next q b d w) = absurd (omega (arith, q, h))
        go (at_record q b d w) = absurd (omega (arith, q, h))
        go (at_end q b d w) = absurd (omega (arith, q, h))

    pub finish : (vs : List Value) → Chain (hub_form l) vs → Ends l vs
    finish vs c = go (stage l (numbers_of vs) (length (entries_of vs)))
      where
        rest : Chain (hub_form l) vs → 3 ≤ length (numbers_of vs) → Ends l vs
        rest d h =
            numbers_left (3 + width_in (numbers_of vs) + machines_in (numbers_of vs)) vs d h (omega arith)

        go : Stage l (numbers_of vs) (length (entries_of vs)) → Ends l vs
        go (at_form q w) =
            next_number vs form= 1 1 1 c w (omega arith) (omega arith)
            (λ d. after_one (vs ++ (number form= 1 ∷ [])) d
            (rw (numbers_number vs form= 1) (omega (arith, q, longer (numbers_of vs) 1))))
        go (at_machines q w) = after_one vs c q
        go (at_cells q w) = after_two vs c q
        go (at_cell q b w) = rest c q
        go (at_next q b d w) = rest c q
        go (at_record q b d w) = rest c q
        go (at_end q b d w) = rest c q

    -- the hub's text is a form whose lines are read as they are written, and which can always be finished
    pub lawful : Lawful (hub_form l)
    lawful = record { reads = λ vs t v r c e. line_read l vs t v r e; finish = finish }
