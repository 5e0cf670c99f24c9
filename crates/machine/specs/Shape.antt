-- Good shape of a machine. Assumes nothing: these are definitions.
use Rattle.std.specs.Prelude.{ℕ, ◌+◌, Bool, ◌&&◌, ltb, leb, eqb, get_or, if◌then◌else◌}
use Rattle.basics.specs.Every.{every}
use Rattle.basics.specs.Counts.{counts}
use Rattle.operation.specs.Limits.{Limits}
use Rattle.operation.specs.Packing.{nothing}
use Rattle.operation.specs.declared.Packed.{Packed}
use Rattle.effect.specs.Replaying.{most_queued}
use Rattle.state.specs.Sizes.{sizes_good}
use Rattle.state.specs.Holding.{holds, blank}
use Rattle.state.specs.Numbers.{most_issued, most_decided}
use Rattle.machine.specs.Numbers.{note_count}
use Rattle.machine.specs.declared.Machine.{Machine}

-- issued − done is the queue's length, which is at most 16; kept + lost + unheard = done
unfoldable pub sales_good : ℕ → ℕ → ℕ → ℕ → ℕ → ℕ → Bool
sales_good waiting issued done kept lost unheard =
    leb waiting most_queued &&
    (leb issued most_issued && (eqb (done + waiting) issued && eqb (kept + (lost + unheard)) done))

module _ (l : Limits) where
  -- a place of the queue, and one past its length
  unfoldable pub place_good : ℕ → ℕ → ℕ → Packed → Bool
  place_good width waiting i o = if ltb i waiting then holds l width o else blank o

  unfoldable pub shaped : Machine → Bool
  shaped m =
      sizes_good l m.machines m.width &&
      (ltb m.me m.machines &&
      (sales_good m.waiting m.issued m.done m.kept m.lost m.unheard &&
      (leb m.position most_decided &&
      (counts m.agreed m.width l.held &&
      (counts m.guess m.width l.held &&
      (counts m.notes note_count l.held &&
      every most_queued (λ i. place_good m.width m.waiting i (get_or m.queue i nothing))))))))
