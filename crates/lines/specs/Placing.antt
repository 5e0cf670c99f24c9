-- A text laid into a lent buffer, piece after piece, where it has room. Assumes nothing: these are definitions.
use Rattle.std.specs.Prelude.{ℕ, ◌≤◌, List, ◌++◌, ◌≡◌, length}
use Rattle.basics.specs.Over.{over}

-- `now` is the buffer b with the text t from its start, which ends at `at`; if t is too long, nothing is said but its length
pub record Laid (b now : List ℕ) (at : ℕ) (t : List ℕ) : Type 0 where
  pub count : at ≡ length t
  pub size : length now ≡ length b
  pub text : at ≤ length b → now ≡ over at t b

-- the piece x is laid from `at` on, whatever was laid before it, and ends at r
abbrev pub Puts : List ℕ → List ℕ → ℕ → ℕ → List ℕ → Type 0
Puts before after at r x = (b t : List ℕ) → Laid b before at t → Laid b after r (t ++ x)
