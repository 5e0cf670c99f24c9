-- How the hub's text is read. Assumes nothing: these are definitions.
use Rattle.std.specs.Prelude.{ℕ, suc, ◌+◌, ◌-◌, ◌%◌, Bool, true, false, ◌&&◌, List, [], ◌∷◌, ltb, eqb, length, get_or, set, replicate, if◌then◌else◌}
use Rattle.basics.specs.Over.{over}
use Rattle.operation.specs.Limits.{Limits}
use Rattle.operation.specs.Reading.{well_formed}
use Rattle.effect.specs.Running.{filled}
use Rattle.state.specs.Numbers.{most_machines, most_issued}
use Rattle.lines.specs.Fields.{LF, Read, got, wrong, field, hex_line}
use Rattle.lines.specs.Texts.{Form}
use Rattle.hub.specs.Ring.{most_kept, total, kept_count, record_of, empty_record}
use Rattle.hub.specs.History.{Decision, count_of}
use Rattle.hub.specs.declared.Hub.{Hub}
use Rattle.hub.specs.declared.Record.{Record}
use Rattle.hubtext.specs.Keys.{form=, machines=, cells=, cell=, next=, rec=, comma}
use Rattle.hubtext.specs.Values.{
  Value,
  number,
  entry,
  line_of,
  numbers_of,
  entries_of,
  machines_in,
  width_in,
  cells_in,
  nexts_in,
}

-- what the next line is: a key with the range of its number, a record, or no line
pub data Want : Type 0 where
  field_line : List ℕ → ℕ → ℕ → Want
  record_line : Want
  no_line : Want

module _ (l : Limits) where
  -- after the numbers ns and so many records
  unfoldable pub want : List ℕ → ℕ → Want
  want ns records =
      if eqb (length ns) 0 then field_line form= 1 1
      else (if eqb (length ns) 1 then field_line machines= 1 most_machines
      else (if eqb (length ns) 2 then field_line cells= 1 l.cells
      else (if ltb (length ns) (3 + width_in ns) then field_line cell= 0 l.held
      else (if ltb (length ns) (3 + width_in ns + machines_in ns) then field_line next= 0 most_issued
      else (if ltb records (kept_count (total (nexts_in ns))) then record_line
      else no_line)))))

  -- a record may come where its machine has fewer so far than its next, and its operation is well formed
  unfoldable pub fits : List ℕ → List Decision → Decision → Bool
  fits ns es e =
      ltb (count_of e.machine es) (get_or (nexts_in ns) e.machine 0) && well_formed l (width_in ns) e.op

  abbrev pub on_number : List ℕ → Read ℕ → Read Value
  on_number key wrong = wrong
  on_number key (got n r) = got (number key n) r

  abbrev pub on_operation : List ℕ → List Decision → ℕ → Read (List ℕ) → Read Value
  on_operation ns es m wrong = wrong
  on_operation ns es m (got op r) =
      if fits ns es (record { machine = m; op = op }) then got (entry (record { machine = m; op = op })) r else wrong

  abbrev pub on_machine : List ℕ → List Decision → Read ℕ → Read Value
  on_machine ns es wrong = wrong
  on_machine ns es (got m r) = on_operation ns es m (hex_line l.bytes r)

  -- the next line
  abbrev pub on_want : List ℕ → List Decision → List ℕ → Want → Read Value
  on_want ns es t (field_line key low top) = on_number key (field key low top LF t)
  on_want ns es t record_line = on_machine ns es (field rec= 0 (machines_in ns - 1) comma t)
  on_want ns es t no_line = wrong

  abbrev pub is_none : Want → Bool
  is_none (field_line key low top) = false
  is_none record_line = false
  is_none no_line = true

  abbrev pub hub_form : Form Value
  hub_form = record {
    line = line_of;
    next = λ vs t. on_want (numbers_of vs) (entries_of vs) t (want (numbers_of vs) (length (entries_of vs)));
    done = λ vs. is_none (want (numbers_of vs) (length (entries_of vs)));
  }

  -- the ring with the records of these entries, of which the first is record n: each is numbered below its machine's next
  -- by as many as come after it
  unfoldable pub placed : List ℕ → ℕ → List Decision → List Record → List Record
  placed next n [] records = records
  placed next n (e ∷ es) records =
      placed next (n + 1) es
      (set records (n % most_kept)
      (record_of l e.machine (get_or next e.machine 0 - suc (count_of e.machine es)) e.op))

  -- the hub of a text's numbers and records
  abbrev pub made : List ℕ → List Decision → Hub
  made ns es =
      let next = over (length (nexts_in ns)) (nexts_in ns) (replicate most_machines 0) in
      record {
        machines = machines_in ns;
        width = width_in ns;
        cells = filled l (cells_in ns);
        next = next;
        records = placed next (total next - length es) es (replicate most_kept (empty_record l));
      }

  unfoldable pub hub_of : List Value → Hub
  hub_of vs = made (numbers_of vs) (entries_of vs)
