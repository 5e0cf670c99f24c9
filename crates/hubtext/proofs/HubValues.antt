-- The values of a hub in shape are those of a whole text, which makes that hub again. Assumes nothing.
use Prim.Native.Nat.{ℕ, zero, suc, ◌+◌, ◌-◌, ◌%◌, ◌≤◌, ◌<◌, zero-le}
use native.Mathlib.Decide.{dec_lt}
use native.Mathlib.Omega.{arith}
use mathlib.Core.Bool.{true}
use mathlib.Core.List.{List, [], ◌∷◌, ◌++◌, map, append-nil}
use mathlib.Core.Path.{◌≡◌, refl, sym, ap, ap₂, subst, ◌∙◌}
use lib.Dec.{ltb, leb, eqb}
use lib.ListN.{
  length,
  get_or,
  take,
  drop,
  replicate,
  length-append,
  length-replicate,
  get_or-replicate,
  get_or-eq_default,
  get_or-append,
}
use lib.Seq.{get_or-take, get_or-append-add, length-take-le, take_at, drop_at, drop-length, ext_get_or}
use borrow.Author.Tests.{eqb-true, leb-true, le-ltb}
use Rattle.basics.specs.Counts.{zero_at, zeros_from}
use Rattle.basics.specs.Over.{over}
use Rattle.basics.proofs.Choice.{and_both}
use Rattle.basics.proofs.Every.{every_at}
use Rattle.basics.proofs.Counts.{count_most, count_zero}
use Rattle.basics.proofs.Over.{over_front, over_past, over_length, all_zero}
use Rattle.operation.specs.Limits.{Limits}
use Rattle.operation.specs.Packing.{unpacked, packed, empty}
use Rattle.operation.specs.Reading.{well_formed}
use Rattle.operation.specs.declared.Packed.{Packed}
use Rattle.state.specs.Numbers.{most_machines, most_issued}
use Rattle.state.specs.Holding.{holds, blank}
use Rattle.effect.specs.Running.{filled}
use Rattle.lines.specs.Texts.{Finished}
use Rattle.lines.proofs.Hexes.{Bytes}
use Rattle.hub.specs.Ring.{most_kept, total, decided, kept_count, no_record, empty_record, record_at}
use Rattle.hub.specs.Shape.{record_good, record_blank, place_good, ring_good, numbered, numbers_good}
use Rattle.hub.specs.History.{Decision, no_decision, count_of}
use Rattle.hub.specs.declared.Hub.{Hub}
use Rattle.hub.specs.declared.Record.{Record}
use Rattle.hub.proofs.GoodShape.{Good, kept_good, kept_machine, kept_sound, place_past}
use Rattle.hubtext.specs.Keys.{cell=, next=}
use Rattle.hubtext.specs.Values.{Value, number, entry, numbers_of, entries_of, cells_in, nexts_in}
use Rattle.hubtext.specs.Writing.{entry_of, entries_from, kept_entries, values_of}
use Rattle.hubtext.specs.Reading.{placed, made, hub_form, hub_of}
use Rattle.hubtext.specs.Real.{Real}
use Rattle.hubtext.proofs.Values.{
  numbers_append,
  entries_append,
  numbers_of_numbers,
  entries_of_numbers,
  numbers_of_entries,
  entries_of_entries,
}
use Rattle.hubtext.proofs.Sofar.{Entry}
use Rattle.hubtext.proofs.Complete.{Whole, whole_finished}
use Rattle.hubtext.proofs.Arranged.{arranged}
use Rattle.hubtext.proofs.MadeValues.{made_values}
use Rattle.hubtext.proofs.Room.{sum_same}
use Rattle.hubtext.proofs.PlacedRecords.{
  entered,
  placed_long,
  placed_other,
  placed_at,
  Entered,
  numbered_entered,
}
use Rattle.hubtext.proofs.MadeHubs.{padded_same}

-- zeros past a place
zero_past : (xs : List ℕ) (n i : ℕ) → zeros_from xs n ≡ true → n ≤ i → get_or xs i 0 ≡ 0
unfolding zeros_from
zero_past xs n i h k = go (dec_lt i (length xs))
  where
    go : Dec (i < length xs) → get_or xs i 0 ≡ 0
    go (yes q) = eqb-true _ _ (rw (le-ltb i n k) at (every_at (zero_at xs n) (length xs) i h q))
    go (no q) = let past : length xs ≤ i = omega (arith, q) in get_or-eq_default xs 0 past

-- a list of which the rest is zeros is its front, with zeros after it
front_padded :
    (xs : List ℕ) (n k : ℕ) → length xs ≡ n → k ≤ n → ((i : ℕ) → k ≤ i → get_or xs i 0 ≡ 0) →
    over (length (take k xs)) (take k xs) (replicate n 0) ≡ xs
front_padded xs n k sized h zeros =
    ext_get_or 0 (over (length (take k xs)) (take k xs) (replicate n 0)) xs long (λ i _. go i (dec_lt i k))
  where
    front : length (take k xs) ≡ k
    front = length-take-le k xs (omega (arith, sized))

    long : length (over (length (take k xs)) (take k xs) (replicate n 0)) ≡ length xs
    long =
        over_length (take k xs) (replicate n 0) (length (take k xs)) (omega arith)
        (rw (length-replicate {A = ℕ} n 0) (omega (arith, front))) ∙ (length-replicate {A = ℕ} n 0 ∙ sym sized)

    go : (i : ℕ) → Dec (i < k) → get_or (over (length (take k xs)) (take k xs) (replicate n 0)) i 0 ≡ get_or xs i 0
    go i (yes q) = over_front (take k xs) n i (omega (arith, front)) ∙ get_or-take k xs i 0 q
    go i (no q) = over_past (take k xs) n i (omega (arith, front, q)) ∙ sym (zeros i (omega (arith, q)))

-- a place that holds an operation is that operation packed, and a blank one is empty
packed_again :
    (l : Limits) (width : ℕ) (o : Packed) → holds l width o ≡ true → length o.bytes ≡ l.bytes →
    packed l (unpacked o) ≡ o
unfolding holds packed
packed_again l width o h sized =
    let (a, b) = and_both (leb o.len l.bytes) _ h in
    let z = (and_both (well_formed l width (unpacked o)) (zeros_from o.bytes o.len) b).1 in
    let few = leb-true o.len l.bytes a in
    let len : length (unpacked o) ≡ o.len = length-take-le o.len o.bytes (omega (arith, few, sized)) in
    let bytes = front_padded o.bytes l.bytes o.len sized few (λ i k. zero_past o.bytes o.len i z k) in
    ap₂ (λ (x : ℕ) (y : List ℕ). record { len = x; bytes = y }) len bytes

empty_again : (l : Limits) (o : Packed) → blank o ≡ true → length o.bytes ≡ l.bytes → empty l ≡ o
unfolding blank
empty_again l o h sized =
    let (a, z) = and_both (eqb o.len 0) (zeros_from o.bytes 0) h in
    let len : 0 ≡ o.len = sym (eqb-true o.len 0 a) in
    let bytes : replicate l.bytes 0 ≡ o.bytes =
    ext_get_or 0 (replicate l.bytes 0) o.bytes (length-replicate {A = ℕ} l.bytes 0 ∙ sym sized)
    (λ i k. all_zero l.bytes i ∙ sym (zero_past o.bytes 0 i z zero-le)) in
    ap₂ (λ (x : ℕ) (y : List ℕ). record { len = x; bytes = y }) len bytes

-- the first bytes of bytes are bytes
bytes_of : (n : ℕ) (xs : List ℕ) → ((j : ℕ) → get_or xs j 0 < 256) → Bytes (take n xs)
unfolding Bytes
bytes_of zero xs h = tt
bytes_of (suc n) [] h = tt
bytes_of (suc n) (x ∷ xs) h = (h 0, bytes_of n xs (λ j. h (suc j)))

-- entry i of the records from n on
entry_at :
    (rs : List Record) (n k i : ℕ) → i < k → get_or (entries_from rs n k) i no_decision ≡ entry_of (record_at rs (n + i))
unfolding entries_from
entry_at rs n zero i h = absurd (omega (arith, h))
entry_at rs n (suc k) zero h = let z : n ≡ n + 0 = omega arith in ap (λ x. entry_of (record_at rs x)) z
entry_at rs n (suc k) (suc i) h =
    let z : n + 1 + i ≡ n + suc i = omega arith in
    entry_at rs (n + 1) k i (omega (arith, h)) ∙ ap (λ x. entry_of (record_at rs x)) z

entries_long : (rs : List Record) (n k : ℕ) → length (entries_from rs n k) ≡ k
unfolding entries_from
entries_long rs n zero = refl
entries_long rs n (suc k) = ap suc (entries_long rs (n + 1) k)

module _ (l : Limits) (h : Hub) (g : Good l h) (real : Real l h) where
  abbrev cs : List ℕ
  cs = take h.width h.cells

  abbrev nx : List ℕ
  nx = take h.machines h.next

  abbrev ns : List ℕ
  ns = 1 ∷ h.machines ∷ h.width ∷ (cs ++ nx)

  abbrev es : List Decision
  es = kept_entries h

  abbrev d : ℕ
  d = decided h

  abbrev k : ℕ
  k = kept_count d

  -- the numbers and records of its values
  pub numbers_is : numbers_of (values_of h) ≡ ns
  unfolding values_of numbers_of
  numbers_is =
      ap (λ x. 1 ∷ h.machines ∷ h.width ∷ x)
      (numbers_append (map (number cell=) cs) (map (number next=) nx ++ map entry es) ∙
      rw (
        numbers_of_numbers cell= cs,
        numbers_append (map (number next=) nx) (map entry es),
        numbers_of_numbers next= nx,
        numbers_of_entries es,
        append-nil nx,
      ))

  pub entries_is : entries_of (values_of h) ≡ es
  unfolding values_of entries_of
  entries_is =
      entries_append (map (number cell=) cs) (map (number next=) nx ++ map entry es) ∙
      rw (
        entries_of_numbers cell= cs,
        entries_append (map (number next=) nx) (map entry es),
        entries_of_numbers next= nx,
        entries_of_entries es,
      )

  cs_long : length cs ≡ h.width
  cs_long = length-take-le h.width h.cells (omega (arith, real.cells_long, g.sizes.width_most))

  nx_long : length nx ≡ h.machines
  nx_long = length-take-le h.machines h.next (omega (arith, real.next_long, g.sizes.machines_most))

  pub cells_in_lem : cells_in ns ≡ cs
  cells_in_lem = take_at cs nx h.width cs_long

  pub nexts_in_lem : nexts_in ns ≡ nx
  nexts_in_lem = drop_three ∙ drop_at cs nx h.width cs_long
    where
      drop_three : drop (3 + h.width) ns ≡ drop h.width (cs ++ nx)
      drop_three = let z : 3 + h.width ≡ suc (suc (suc h.width)) = omega arith in ap (λ x. drop x ns) z

  -- a next past the machines is 0, so the nexts of the text are the hub's
  next_zero : (i : ℕ) → h.machines ≤ i → get_or h.next i 0 ≡ 0
  next_zero i q = go (dec_lt i (length h.next))
    where
      go : Dec (i < length h.next) → get_or h.next i 0 ≡ 0
      go (yes p) = count_zero h.next h.machines most_issued g.next i p q
      go (no p) = let past : length h.next ≤ i = omega (arith, p) in get_or-eq_default h.next 0 past

  cell_zero : (i : ℕ) → h.width ≤ i → get_or h.cells i 0 ≡ 0
  cell_zero i q = go (dec_lt i (length h.cells))
    where
      go : Dec (i < length h.cells) → get_or h.cells i 0 ≡ 0
      go (yes p) = count_zero h.cells h.width l.held g.cells i p q
      go (no p) = let past : length h.cells ≤ i = omega (arith, p) in get_or-eq_default h.cells 0 past

  pub next_again : over (length nx) nx (replicate most_machines 0) ≡ h.next
  next_again =
      front_padded h.next most_machines h.machines real.next_long g.sizes.machines_most next_zero

  pub cells_again : filled l cs ≡ h.cells
  unfolding filled
  cells_again = front_padded h.cells l.cells h.width real.cells_long g.sizes.width_most cell_zero

  next_same : (i : ℕ) → get_or nx i 0 ≡ get_or h.next i 0
  next_same i = sym (padded_same nx most_machines i) ∙ ap (λ x. get_or x i 0) next_again

  total_same : total nx ≡ total h.next
  unfolding total
  total_same = sum_same most_machines (λ m. get_or nx m 0) (λ m. get_or h.next m 0) next_same

  -- what the walk over the kept records says
  walked : Entered l h.next h.records (d - k) es k
  unfolding numbers_good count_of
  walked =
      numbered_entered l h.next h.records (d - k) es
      (λ i q. ap (λ (x : Decision). x.machine) (entry_at h.records (d - k) k i (omega (
        arith,
        q,
        entries_long
            h.records (d - k) k,
      )))) k
      (omega (arith, entries_long h.records (d - k) k)) h.next (λ m. rw none (omega arith)) (λ m. rw none
      zero-le)
      (let z : d ≡ d - k + k = omega arith in subst (λ (x : ℕ). numbered h.records k x h.next ≡ true) z g.numbers)
    where
      none : drop k es ≡ []
      none = ap (λ x. drop x es) (sym (entries_long h.records (d - k) k)) ∙ drop-length es

  entry_good : (i : ℕ) → i < k → Entry l ns (entry_of (record_at h.records (d - k + i)))
  entry_good i q = record {
    machine_in = kept_machine l h g (d - k + i) (omega (arith, q));
    formed = (kept_sound l h g (d - k + i) (omega (arith, q))).formed;
    bytes =
        bytes_of (record_at h.records (d - k + i)).op.len (record_at h.records (d - k + i)).op.bytes
        (λ j. real.bytes_small ((d - k + i) % most_kept) j (omega arith));
  }

  es_long : length es ≡ k
  es_long = entries_long h.records (d - k) k

  number_at : (i : ℕ) → 3 ≤ i → get_or ns i 0 ≡ get_or (cs ++ nx) (i - 3) 0
  number_at i q = let z : i ≡ suc (suc (suc (i - 3))) = omega (arith, q) in ap (λ x. get_or ns x 0) z

  next_most : (i : ℕ) → get_or h.next i 0 ≤ most_issued
  next_most i = go (dec_lt i (length h.next))
    where
      go : Dec (i < length h.next) → get_or h.next i 0 ≤ most_issued
      go (yes p) = count_most h.next h.machines most_issued g.next i p
      go (no p) =
          let past : length h.next ≤ i = omega (arith, p) in rw (get_or-eq_default h.next 0 past) zero-le

  cell_at : (i : ℕ) → 3 ≤ i → i < 3 + h.width → get_or ns i 0 ≤ l.held
  cell_at i q p =
      rw (
        number_at i q,
        get_or-append cs nx 0 (i - 3) (omega (arith, cs_long, p, q)),
        get_or-take h.width h.cells (i - 3) 0 (omega (arith, p, q)),
      )
      (count_most h.cells h.width l.held g.cells (i - 3)
      (omega (arith, p, q, real.cells_long, g.sizes.width_most)))

  next_at : (i : ℕ) → 3 + h.width ≤ i → get_or ns i 0 ≤ most_issued
  next_at i q =
      let z : i - 3 ≡ length cs + (i - 3 - h.width) = omega (arith, cs_long, q) in
      rw (number_at i (omega (arith, q)), z, get_or-append-add cs nx (i - 3 - h.width) 0, next_same (i - 3 - h.width))
      (next_most (i - 3 - h.width))

  ns_long : length ns ≡ 3 + h.width + h.machines
  ns_long = omega (arith, length-append cs nx, cs_long, nx_long)

  pub hub_whole : Whole l ns es
  hub_whole = record {
    sofar =
        record {
          form_is = λ _. refl;
          machines_fit = λ _. (g.sizes.machines_least, g.sizes.machines_most);
          width_fits = λ _. (g.sizes.width_least, g.sizes.width_most);
          few = λ _. omega (arith, ns_long);
          cell_in = cell_at;
          next_in = λ i q _. next_at i q;
          late = λ _. (omega (arith, ns_long), omega (arith, ns_long));
          kept = rw (nexts_in_lem, total_same) (omega (arith, es_long));
          room = λ m. rw (nexts_in_lem, next_same m) (walked.room m);
          each =
              λ i q. subst (λ (x : Decision). Entry l ns x)
              (sym (entry_at h.records (d - k) k i (omega (arith, q, es_long)))) (entry_good i (omega (
                arith,
                q,
                es_long,
              )));
        };
    three = omega (arith, ns_long);
    numbers_all = omega (arith, ns_long);
    records_all = rw (nexts_in_lem, total_same) (omega (arith, es_long));
  }

  -- each kept record is the one that its entry makes
  record_again :
      (i : ℕ) → i < k →
      entered l h.next (get_or es i no_decision) (drop (suc i) es) ≡ record_at h.records (d - k + i)
  unfolding record_good
  record_again i q =
      ap (λ (x : Decision). entered l h.next x (drop (suc i) es)) (entry_at h.records (d - k) k i q) ∙
      ap₂ (λ (n : ℕ) (o : Packed). record { machine = r.machine; number = n; op = o }) (sym (walked.numbers i q))
      (packed_again l h.width r.op held (real.bytes_long ((d - k + i) % most_kept) (omega arith)))
    where
      r : Record
      r = record_at h.records (d - k + i)

      held : holds l h.width r.op ≡ true
      held = (and_both (ltb r.machine h.machines) (holds l h.width r.op) (kept_good l h g (d - k + i)
          (omega (arith, q)))).1

  blank_again : (j : ℕ) → j < most_kept → d ≤ j → empty_record l ≡ get_or h.records j no_record
  unfolding record_blank ring_good
  blank_again j q p =
      let b = sym (place_past l h.machines h.width (get_or h.records j no_record) d j p) ∙ every_at
      (λ i. place_good l h.machines h.width d i (get_or h.records i no_record)) most_kept j g.ring q in
      let (m, c) = and_both (eqb (get_or h.records j no_record).machine 0) _ b in
      let (n, o) = and_both (eqb (get_or h.records j no_record).number 0) (blank (get_or h.records j no_record
      ).op) c in
      same (get_or h.records j no_record) (eqb-true _ _ m) (eqb-true _ _ n)
      (empty_again l (get_or h.records j no_record).op o (real.bytes_long j q))
    where
      same : (r : Record) → r.machine ≡ 0 → r.number ≡ 0 → empty l ≡ r.op → empty_record l ≡ r
      same r a b c =
          ap₂ (λ (x y : ℕ). record { machine = x; number = y; op = empty l }) (sym a) (sym b) ∙ ap
          (λ (o : Packed). record { machine = r.machine; number = r.number; op = o }) c

  ring_again : placed l h.next (d - k) es (replicate most_kept (empty_record l)) ≡ h.records
  ring_again =
      ext_get_or no_record ring h.records
      (placed_long l h.next (d - k) es empties ∙ (length-replicate most_kept (empty_record l) ∙ sym real.records_long))
      (λ j q. go j (omega (arith, q, long)) (dec_lt j d))
    where
      empties : List Record
      empties = replicate most_kept (empty_record l)

      ring : List Record
      ring = placed l h.next (d - k) es empties

      long : length ring ≡ most_kept
      long = placed_long l h.next (d - k) es empties ∙ length-replicate most_kept (empty_record l)

      go : (j : ℕ) → j < most_kept → Dec (j < d) → get_or ring j no_record ≡ get_or h.records j no_record
      go j q (yes p) =
          let i = (j + most_kept - (d - k) % most_kept) % most_kept in
          let here : j ≡ (d - k + i) % most_kept = omega (arith, q, p) in
          let lt : i < k = omega (arith, q, p) in
          ap (λ x. get_or ring x no_record) here ∙
          (placed_at l h.next (d - k) es empties (length-replicate most_kept (empty_record l)) (omega (
            arith,
            es_long,
          )) i
          (omega (arith, lt, es_long)) ∙
          (record_again i lt ∙ ap (λ x. get_or h.records x no_record) (sym here)))
      go j q (no p) =
          placed_other l h.next (d - k) es empties j (λ i r e. omega (arith, e, r, es_long, p, q)) ∙
          (get_or-replicate most_kept j (empty_record l) no_record q ∙ blank_again j q (omega (arith, p)))

  pub made_again : made l ns es ≡ h
  made_again =
      ap₂ (λ (c n : List ℕ). record {
        machines = h.machines;
        width = h.width;
        cells = c;
        next = n;
        records = placed l next (total next - length es) es empties;
      })
      (ap (filled l) cells_in_lem ∙ cells_again) next_is ∙
      ap (λ (r : List Record). record {
        machines = h.machines;
        width = h.width;
        cells = h.cells;
        next = h.next;
        records = r;
      })
      (ap (λ x. placed l x (total x - length es) es empties) next_is ∙
      (ap (λ x. placed l h.next (d - x) es empties) es_long ∙ ring_again))
    where
      empties : List Record
      empties = replicate most_kept (empty_record l)

      next : List ℕ
      next = over (length (nexts_in ns)) (nexts_in ns) (replicate most_machines 0)

      next_is : next ≡ h.next
      next_is = ap (λ x. over (length x) x (replicate most_machines 0)) nexts_in_lem ∙ next_again

  -- its values stand in order, and so are those of a good text, which makes the hub again
  pub values_arranged : values_of h ≡ arranged ns es
  values_arranged = subst (λ (x : Hub). values_of x ≡ arranged ns es) made_again (made_values l ns es hub_whole)

  pub hub_finished : Finished (hub_form l) (values_of h)
  hub_finished =
      subst (λ (x : List Value). Finished (hub_form l) x) (sym values_arranged) (whole_finished l ns es hub_whole)

  pub hub_again : hub_of l (values_of h) ≡ h
  unfolding hub_of
  hub_again = rw (numbers_is, entries_is) made_again
