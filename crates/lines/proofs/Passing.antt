-- A loop over the bytes of a field: what holds at its head, and what a turn does. Assumes nothing.
use Prim.Native.Nat.{ℕ, suc, ◌+◌, ◌-◌, ◌≤◌, ◌<◌, zero-le}
use native.Mathlib.Numerals.{add-one}
use native.Mathlib.Omega.{arith}
use mathlib.Core.Bool.{Bool, true, false}
use mathlib.Core.List.{List, [], ◌∷◌}
use mathlib.Core.Path.{◌≡◌, refl, ◌∙◌, ap}
use lib.Dec.{leb}
use lib.ListN.{length, take, drop, get_or, drop_of_length-le}
use lib.Seq.{drop-cons}
use Rattle.std.proofs.Common.{add_assoc}
use Rattle.std.proofs.lemmas.List.{drop-drop, length-drop, take_all}
use borrow.Author.Tests.{le-leb}
use Rattle.std.specs.Prelude.{Option, None, Some, if◌then◌else◌}
use Rattle.lines.specs.Fields.{wrong, digits, number, field}
use Rattle.lines.specs.Steps.{InRange, field_from, field_as, resume, go_on, Kept, StepKept, FieldSays}
use Rattle.lines.specs.declared.Field.{Field}
use Rattle.lines.specs.declared.Reading.{Reading}
use Rattle.lines.specs.declared.Step.{Step}
use Rattle.lines.specs.declared.Step.TheVariants.{More, Ended}

-- what is left of a text
pub to_end : (s : List ℕ) (at : ℕ) → take (length s - at) (drop at s) ≡ drop at s
to_end s at = take_all (length s - at) (drop at s) (omega (arith, length-drop at s))

-- in a field at the start of a text: reading it on from here comes to what reading all of it does
pub record Inner (s : List ℕ) (f : Field) (at : ℕ) (r : Reading) : Type 0 where
  pub kept : Kept f r
  pub same : field_as f s ≡ resume f r (drop at s)

pub inner_start : (s : List ℕ) (f : Field) → InRange f → Inner s f 0 (record { seen = 0; value = 0 })
unfolding resume
inner_start s f i = record {
  kept = record { range = i; far = omega arith; most = zero-le };
  same = rw (le-leb 0 (length f.key.now) zero-le);
}

field_nil : (key : List ℕ) (f : Field) → field_from key f [] ≡ wrong
unfolding field number
field_nil [] f = refl
field_nil (k ∷ key) f = refl

pub past_end : (s : List ℕ) (at : ℕ) (f : Field) → length s < at → field_as f (drop at s) ≡ wrong
past_end s at f h = ap (field_as f) (drop_of_length-le s {i = at} (omega arith)) ∙ field_nil f.key.now f

resume_nil : (f : Field) (r : Reading) → resume f r [] ≡ wrong
unfolding resume digits
resume_nil f r = go (leb r.seen (length f.key.now))
  where
    go : (x : Bool) → (if x then field_from (drop r.seen f.key.now) f [] else wrong) ≡ wrong
    go false = refl
    go true = field_nil (drop r.seen f.key.now) f

module _ (s : List ℕ) (f : Field) (at : ℕ) (r : Reading) (i : Inner s f at r) where
  pub stops_short : length s ≤ at → field_as f s ≡ wrong
  stops_short h = i.same ∙ (ap (resume f r) (drop_of_length-le s h) ∙ resume_nil f r)

  module _ (h : at < length s) where
    stepped :
        (o : Option Step) → ((t : List ℕ) → resume f r (get_or s at 0 ∷ t) ≡ go_on f o t) →
        field_as f s ≡ go_on f o (drop (at + 1) s)
    stepped o g = i.same ∙ (ap (resume f r) (drop-cons s at 0 h) ∙ (g (drop (suc at) s) ∙ rw add-one))

    pub goes_wrong : ((t : List ℕ) → resume f r (get_or s at 0 ∷ t) ≡ go_on f None t) → field_as f s ≡ wrong
    unfolding go_on
    goes_wrong g = stepped None g

    module _ (o : Step) where
      pub goes_on :
          (q : Reading) → o ≡ More q →
          ((t : List ℕ) → resume f r (get_or s at 0 ∷ t) ≡ go_on f (Some o) t) → StepKept f (Some o) →
          Inner s f (at + 1) q
      unfolding go_on StepKept
      goes_on q e g p = record { kept = rw e at p; same = stepped (Some o) g ∙ rw e }

      -- from a place in a longer text
      pub goes_out :
          (all : List ℕ) (start w : ℕ) → s ≡ drop start all → o ≡ Ended w →
          ((t : List ℕ) → resume f r (get_or s at 0 ∷ t) ≡ go_on f (Some o) t) → StepKept f (Some o) →
          FieldSays all f start (Some (w, record { at = start + at + 1 }))
      unfolding go_on StepKept FieldSays
      goes_out all start w d e g p = (
        rw (← d) (stepped (Some o) g ∙ rw (e, d, drop-drop (at + 1) start all, ← add_assoc start at 1)),
        (
          omega arith,
          (omega (arith, length-drop start all, ap (length {A = ℕ}) d), rw e at p),
        ),
      )
