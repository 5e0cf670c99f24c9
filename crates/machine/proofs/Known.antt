-- A call on a machine in shape is the same call of `InShape`, once its arguments pass. Assumes nothing.
use Rattle.std.proofs.Common.{◌≡◌, ℕ, ◌≤◌, ◌<◌, true, List, length}
use Rattle.std.proofs.lemmas.Bool.{lt-ltb, le-ltb}
use Rattle.basics.specs.declared.Refusal.TheVariants.{OutOfRange}
use Rattle.operation.specs.Limits.{Limits}
use Rattle.operation.specs.Reading.{well_formed}
use Rattle.state.specs.Numbers.{most_issued, most_decided}
use Rattle.machine.specs.Shape.{shaped}
use Rattle.machine.specs.Issuing.{issue_known, issue_of}
use Rattle.machine.specs.Noting.{note_known, note_of}
use Rattle.machine.specs.Asking.{ask_known, ask_of, asked_known, asked_into}
use Rattle.machine.specs.Recording.{not_taken, record_known, record_of}
use Rattle.machine.specs.Copying.{copy_good, copy_known, copy_of}
use Rattle.machine.specs.declared.Machine.{Machine}

module _ (l : Limits) (m : Machine) (in-shape : shaped l m ≡ true) where
  pub issue_known_lem : (op : List ℕ) → well_formed l m.width op ≡ true → issue_known l m op ≡ issue_of l m op
  unfolding issue_of
  issue_known_lem op h = rw (in-shape, h)

  pub note_known_lem : (k i : ℕ) → note_known m k i ≡ note_of l m k i
  unfolding note_of
  note_known_lem k i = rw in-shape

  pub ask_known_lem :
      (j : ℕ) (buf : List ℕ) →
      (ask_known l m j (length buf) ≡ ask_of l m j (length buf)) × (asked_known l m j buf ≡ asked_into l m j buf)
  unfolding ask_of asked_into
  ask_known_lem j buf = (rw in-shape, rw in-shape)

  pub copy_known_lem :
      (position : ℕ) (cells : List ℕ) (decided : ℕ) → copy_good l m position cells decided ≡ true →
      copy_known l m position cells decided ≡ copy_of l m position cells decided
  unfolding copy_of
  copy_known_lem position cells decided h = rw (in-shape, h)

  -- a record, by the range of its machine, its operation number and its own
  module _ (n who number : ℕ) (op : List ℕ) where
    pub no_machine : m.machines ≤ who → not_taken OutOfRange m ≡ record_of l m n who number op
    unfolding record_of
    no_machine h = simp (in-shape, le-ltb who m.machines h)

    module _ (a : who < m.machines) where
      pub no_number : most_issued ≤ number → not_taken OutOfRange m ≡ record_of l m n who number op
      unfolding record_of
      no_number h = simp (in-shape, lt-ltb who m.machines a, le-ltb number most_issued h)

      module _ (b : number < most_issued) where
        pub no_record : most_decided ≤ n → not_taken OutOfRange m ≡ record_of l m n who number op
        unfolding record_of
        no_record h =
            simp (in-shape, lt-ltb who m.machines a, lt-ltb number most_issued b, le-ltb n most_decided h)

        pub record_known_lem :
            n < most_decided → well_formed l m.width op ≡ true →
            record_known l m n who number op ≡ record_of l m n who number op
        unfolding record_of
        record_known_lem d h =
            simp (in-shape, lt-ltb who m.machines a, lt-ltb number most_issued b, lt-ltb n most_decided d, h)
