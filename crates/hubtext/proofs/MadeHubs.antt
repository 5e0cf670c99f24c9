-- The hub that a whole text makes is in shape, and its values are those of the text. Assumes nothing.
use Prim.Native.Nat.{ℕ, suc, ◌+◌, ◌-◌, ◌%◌, ◌≤◌, ◌<◌}
use native.Mathlib.Decide.{dec_lt}
use native.Mathlib.Omega.{arith}
use mathlib.Core.Bool.{true}
use mathlib.Core.List.{List}
use mathlib.Core.Path.{◌≡◌, sym, ap, subst, ◌∙◌}
use lib.ListN.{length, get_or, drop, replicate, length-drop, length-replicate, get_or-replicate, get_or-eq_default}
use lib.Seq.{get_or-drop, drop-length, length-take-le, get_or-take}
use borrow.Author.Tests.{le-leb, lt-ltb}
use Rattle.basics.specs.Counts.{count_at, counts}
use Rattle.basics.specs.Over.{over}
use Rattle.basics.proofs.Every.{every_all}
use Rattle.basics.proofs.Over.{over_front, over_past}
use Rattle.operation.specs.Limits.{Limits}
use Rattle.effect.specs.Running.{filled}
use Rattle.state.specs.Numbers.{most_machines, most_issued}
use Rattle.state.proofs.KeptCounts.{counts_over, counts_filled}
use Rattle.state.proofs.Holding.{packed_held}
use Rattle.hub.specs.Ring.{most_kept, total, kept_count, empty_record, no_record, record_at}
use Rattle.hub.specs.Shape.{record_good, record_blank, place_good, ring_good, numbered, numbers_good, shaped}
use Rattle.hub.specs.History.{Decision, no_decision, count_of}
use Rattle.hub.specs.declared.Record.{Record}
use Rattle.hub.proofs.GoodShape.{is_shaped, place_below, place_past}
use Rattle.hub.proofs.Fresh.{blank_record}
use Rattle.hubtext.specs.Values.{machines_in, width_in, cells_in, nexts_in}
use Rattle.hubtext.specs.Reading.{placed, made}
use Rattle.hubtext.proofs.Sofar.{Sofar, Entry}
use Rattle.hubtext.proofs.Complete.{Whole}
use Rattle.hubtext.proofs.Room.{sum_same}
use Rattle.hubtext.proofs.PlacedRecords.{entered, placed_other, placed_at, entered_numbered}

-- a list with zeros after it has the same numbers
pub padded_same : (xs : List ℕ) (n i : ℕ) → get_or (over (length xs) xs (replicate n 0)) i 0 ≡ get_or xs i 0
padded_same xs n i = go (dec_lt i (length xs))
  where
    go : Dec (i < length xs) → get_or (over (length xs) xs (replicate n 0)) i 0 ≡ get_or xs i 0
    go (yes h) = over_front xs n i h
    go (no h) =
        let past : length xs ≤ i = omega (arith, h) in
        over_past xs n i past ∙ sym (get_or-eq_default xs 0 past)

module _ (l : Limits) (ns : List ℕ) (es : List Decision) (whole : Whole l ns es) where
  abbrev s : Sofar l ns es
  s = whole.sofar

  abbrev nx : List ℕ
  nx = nexts_in ns

  abbrev next : List ℕ
  next = over (length nx) nx (replicate most_machines 0)

  abbrev first : ℕ
  first = total next - length es

  abbrev ring : List Record
  ring = placed l next first es (replicate most_kept (empty_record l))

  length_is : length ns ≡ 3 + width_in ns + machines_in ns
  length_is = omega (arith, s.few whole.three, whole.numbers_all)

  pub nexts_long : length nx ≡ machines_in ns
  nexts_long = length-drop (3 + width_in ns) ns ∙ omega (arith, length_is)

  total_same : total next ≡ total nx
  unfolding total
  total_same = sum_same most_machines (λ m. get_or next m 0) (λ m. get_or nx m 0) (padded_same nx most_machines)

  pub records_count : length es ≡ kept_count (total next)
  records_count = rw total_same (omega (arith, s.kept, whole.records_all))

  -- the cells and nexts are counts
  nexts_good : counts next (machines_in ns) most_issued ≡ true
  unfolding counts
  nexts_good =
      counts_over most_machines most_issued (machines_in ns) nx nexts_long
      (every_all (count_at nx (length nx) most_issued) (length nx)
      (λ i h. simp (
        lt-ltb i (length nx) h,
        le-leb (get_or nx i 0) most_issued
            (rw (get_or-drop (3 + width_in ns) ns i 0) (s.next_in (3 + width_in ns + i) (omega arith) whole.three)),
      )))

  pub cells_long : length (cells_in ns) ≡ width_in ns
  cells_long = length-take-le (width_in ns) (drop 3 ns) (rw (length-drop 3 ns) (omega (arith, length_is)))

  cells_good : counts (filled l (cells_in ns)) (width_in ns) l.held ≡ true
  unfolding counts
  cells_good =
      counts_filled l (width_in ns) (cells_in ns) cells_long
      (every_all (count_at (cells_in ns) (length (cells_in ns)) l.held) (length (cells_in ns))
      (λ i h. simp (
        lt-ltb i (length (cells_in ns)) h,
        le-leb (get_or (cells_in ns) i 0) l.held
            (rw (get_or-take (width_in ns) (drop 3 ns) i 0 (omega (arith, h, cells_long)), get_or-drop 3 ns i 0)
            (s.cell_in (3 + i) (omega arith) (omega (arith, h, cells_long)))),
      )))

  few_records : length es ≤ most_kept
  few_records = omega (arith, records_count)

  all_records : first + length es ≡ total next
  all_records = omega (arith, records_count)

  -- each record in its place
  pub at : (i : ℕ) → i < length es → record_at ring (first + i) ≡ entered l next (get_or es i no_decision) (drop (suc
      i) es)
  at =
      placed_at l next first es (replicate most_kept (empty_record l)) (length-replicate most_kept (empty_record l))
      few_records

  space : (m : ℕ) → count_of m es ≤ get_or next m 0
  space m = rw (padded_same nx most_machines m) (s.room m)

  numbers_good_lem : numbers_good next ring ≡ true
  unfolding numbers_good count_of
  numbers_good_lem =
      subst (λ (k : ℕ). numbered ring k (total next) next ≡ true) records_count
      (subst (λ (n : ℕ). numbered ring (length es) n next ≡ true) all_records
      (entered_numbered l next ring first es at space (length es) (omega arith) next
      (λ m. rw (drop-length es) (omega arith))))

  record_good_lem :
      (e : Decision) (later : List Decision) → Entry l ns e →
      record_good l (machines_in ns) (width_in ns) (entered l next e later) ≡ true
  unfolding record_good
  record_good_lem e later own =
      simp (lt-ltb e.machine (machines_in ns) own.machine_in, packed_held l (width_in ns) e.op own.formed)

  -- what stands in a place of the ring: a record of an entry below the number decided, and nothing past it
  pub place_full :
      (j : ℕ) → j < most_kept → j < total next →
      (i : ℕ) × ((i < length es) × (get_or ring j no_record ≡ entered l next (get_or es i no_decision) (drop (suc i) es)))
  place_full j h q =
      let i = (j + most_kept - first % most_kept) % most_kept in
      let here : j ≡ (first + i) % most_kept = omega (arith, h, records_count, q) in
      let lt : i < length es = omega (arith, h, records_count, q) in
      (i, (lt, ap (λ x. get_or ring x no_record) here ∙ at i lt))

  pub place_empty : (j : ℕ) → j < most_kept → total next ≤ j → get_or ring j no_record ≡ empty_record l
  place_empty j h q =
      placed_other l next first es (replicate most_kept (empty_record l)) j
      (λ i k p. omega (arith, p, k, records_count, q, h)) ∙ get_or-replicate most_kept j (empty_record l) no_record h

  ring_good_lem : ring_good l (machines_in ns) (width_in ns) (total next) ring ≡ true
  unfolding ring_good
  ring_good_lem =
      every_all
      (λ j. place_good l (machines_in ns) (width_in ns) (total next) j (get_or ring j no_record)) most_kept
      (λ j h. go j h (dec_lt j (total next)))
    where
      go :
          (j : ℕ) → j < most_kept → Dec (j < total next) →
          place_good l (machines_in ns) (width_in ns) (total next) j (get_or ring j no_record) ≡ true
      go j h (yes q) =
          let (i, (lt, is)) = place_full j h q in
          place_below l (machines_in ns) (width_in ns) (get_or ring j no_record) (total next) j q ∙
          (ap (record_good l (machines_in ns) (width_in ns)) is ∙ record_good_lem (get_or es i no_decision) (drop (suc i) es)
          (s.each i lt))
      go j h (no q) =
          place_past l (machines_in ns) (width_in ns) (get_or ring j no_record) (total next) j (omega (arith, q)) ∙
          (ap record_blank (place_empty j h (omega (arith, q))) ∙ blank_record l)

  -- so the hub is in shape
  pub made_shaped : shaped l (made l ns es) ≡ true
  made_shaped =
      is_shaped l (made l ns es)
      (record {
        sizes =
            record {
              machines_least = (s.machines_fit (omega (arith, whole.three))).0;
              machines_most = (s.machines_fit (omega (arith, whole.three))).1;
              width_least = (s.width_fits whole.three).0;
              width_most = (s.width_fits whole.three).1;
            };
        cells = cells_good;
        next = nexts_good;
        ring = ring_good_lem;
        numbers = numbers_good_lem;
      })
