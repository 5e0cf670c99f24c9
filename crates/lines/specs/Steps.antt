-- A field byte by byte. Assumes nothing: these are definitions.
use Rattle.std.specs.Prelude.{ℕ, ◌+◌, ◌≤◌, ◌<◌, List, ◌≡◌, Option, None, Some, leb, length, drop, if◌then◌else◌}
use Rattle.lines.specs.Fields.{Read, got, wrong, digits, field}
use Rattle.lines.specs.declared.Cursor.{Cursor}
use Rattle.lines.specs.declared.Field.{Field}
use Rattle.lines.specs.declared.Reading.{Reading}
use Rattle.lines.specs.declared.Step.{Step}
use Rattle.lines.specs.declared.Step.TheVariants.{More, Ended}

-- the greatest number that any field may have
abbrev pub most_top : ℕ
most_top = 1_000_000_000_000

-- a field that can be: its least number is 0 or 1, and what ends it is no digit
pub record InRange (f : Field) : Type 0 where
  pub low_most : f.low ≤ 1
  pub top_most : f.top ≤ most_top
  pub end_most : f.end < 48

-- a field with this rest of its key
abbrev pub field_from : List ℕ → Field → List ℕ → Read ℕ
field_from key f t = field key f.low f.top f.end t

-- a whole field
abbrev pub field_as : Field → List ℕ → Read ℕ
field_as f t = field_from f.key.now f t

-- the rest of a field, after `seen` bytes of its key; past the key, `seen` is one more from the first digit on, and `value`
-- the number so far
unfoldable pub resume : Field → Reading → List ℕ → Read ℕ
resume f r t =
    if leb r.seen (length f.key.now) then field_from (drop r.seen f.key.now) f t else digits f.top f.end r.value t

-- what a field comes to after a step, or after a wrong byte
unfoldable pub go_on : Field → Option Step → List ℕ → Read ℕ
go_on f (Some (More r)) t = resume f r t
go_on f (Some (Ended v)) t = got v t
go_on f None t = wrong

-- how far a field can be
pub record Kept (f : Field) (r : Reading) : Type 0 where
  pub range : InRange f
  pub far : r.seen ≤ length f.key.now + 1
  pub most : r.value ≤ f.top

-- the same where a digit comes past the key
pub record Digits (f : Field) (r : Reading) (b : ℕ) : Type 0 where
  pub kept : Kept f r
  pub past : length f.key.now ≤ r.seen
  pub least : 48 ≤ b
  pub greatest : b ≤ 57

unfoldable pub StepKept : Field → Option Step → Type 0
StepKept f (Some (More r)) = Kept f r
StepKept f (Some (Ended v)) = v ≤ f.top
StepKept f None = Unit {0}

-- what passing a field at a place answers: its number, and the place where the text after it begins; or that it is wrong
unfoldable pub FieldSays : List ℕ → Field → ℕ → Option (ℕ × Cursor) → Type 0
FieldSays s f at (Some (v, c)) =
    (field_as f (drop at s) ≡ got v (drop c.at s)) × ((at < c.at) × ((c.at ≤ length s) × (v ≤ f.top)))
FieldSays s f at None = field_as f (drop at s) ≡ wrong
