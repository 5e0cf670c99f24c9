-- The queue of a machine, and its replay. Assumes nothing: these are definitions.
use Rattle.std.specs.Prelude.{ℕ, ◌-◌, ◌≤◌, List, ◌++◌, drop, replicate}
use Rattle.operation.specs.Limits.{Limits}
use Rattle.operation.specs.Packing.{empty}
use Rattle.operation.specs.declared.Packed.{Packed}
use Rattle.effect.specs.Replaying.{most_queued, Ready, replay, queued}
use Rattle.state.specs.Numbers.{most_issued, most_decided}
use Rattle.machine.specs.declared.Machine.{Machine}

-- the first n leave, the others move up, and the last places are empty
unfoldable pub advanced : Limits → ℕ → List Packed → List Packed
advanced l n queue = drop n queue ++ replicate n (empty l)

-- new agreed cells: the guess becomes the queue replayed on them
abbrev pub agreed_on : Limits → Machine → ℕ → List ℕ → Machine
agreed_on l m position cells = record {
  machines = m.machines;
  width = m.width;
  me = m.me;
  agreed = cells;
  position = position;
  guess = replay l m.width (queued m.waiting m.queue) cells;
  waiting = m.waiting;
  queue = m.queue;
  issued = m.issued;
  done = m.done;
  kept = m.kept;
  lost = m.lost;
  unheard = m.unheard;
  notes = m.notes;
}

-- what the code that takes an own record, and a copy, is handed: counts that have room to grow, and a queue to replay
pub record Own (m : Machine) : Type 0 where
  pub waits : 1 ≤ m.waiting
  pub place : m.position ≤ most_decided
  pub decided : m.done ≤ most_issued
  pub kept : m.kept ≤ most_issued
  pub lost : m.lost ≤ most_issued

pub record Leaving (l : Limits) (m : Machine) (left : ℕ) : Type 0 where
  pub most : left ≤ most_queued
  pub there : left ≤ m.waiting
  pub decided : m.done ≤ most_issued
  pub unheard : m.unheard ≤ most_issued
  pub rest : Ready l m.width (m.waiting - left) (advanced l left m.queue)
