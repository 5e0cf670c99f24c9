-- A text of lines, each of which holds a value, whatever the values are. Assumes nothing: these are definitions.
use Rattle.std.specs.Prelude.{ℕ, zero, suc, ◌<◌, Bool, true, false, List, [], ◌∷◌, ◌++◌, ◌≡◌, length, if◌then◌else◌}
use Rattle.lines.specs.Fields.{LF, Read, got, wrong}
use Rattle.lines.specs.Same.{SameLines}

-- all the values of a text, or the number of the first wrong line
pub data Result (A : Type 0) : Type 0 where
  values : List A → Result A
  wrong_at : ℕ → Result A

-- a form of text: the line of a value without its LF, how the next line is read after the values so far, and whether
-- these are all
pub record Form (A : Type 0) : Type 1 where
  pub line : A → List ℕ
  pub next : List A → List ℕ → Read A
  pub done : List A → Bool

module _ {A : Type 0} (f : Form A) where
  -- the text of values
  unfoldable pub text_of : List A → List ℕ
  text_of [] = []
  text_of (v ∷ vs) = f.line v ++ (LF ∷ text_of vs)

  -- nothing may follow the last line
  abbrev pub ending : List A → List ℕ → Result A
  ending vs [] = values vs
  ending vs (b ∷ t) = wrong_at (suc (length vs))

  -- a wrong line is the first fault; else it goes on with the value and the text after it
  abbrev pub on_line : (A → List ℕ → Result A) → List A → Read A → Result A
  on_line go vs wrong = wrong_at (suc (length vs))
  on_line go vs (got v r) = go v r

  -- at most k lines of t, after those of the values vs
  unfoldable pub run : ℕ → List A → List ℕ → Result A
  run zero vs t = wrong_at zero
  run (suc k) vs t =
      if f.done vs then ending vs t else on_line (λ v r. run k (vs ++ (v ∷ [])) r) vs (f.next vs t)

  -- all of a text, which has no more lines than bytes
  unfoldable pub read : List ℕ → Result A
  read t = run (suc (length t)) [] t

  -- after the values vs the line of v is read as v, whatever follows
  abbrev pub Reads : List A → A → Type 0
  Reads vs v = (r : List ℕ) → f.next vs (f.line v ++ (LF ∷ r)) ≡ got v r

  -- values whose lines are read one after another
  pub data Chain : List A → Type 0 where
    start : Chain []
    step : {vs : List A} (v : A) → Chain vs → f.done vs ≡ false → Reads vs v → Chain (vs ++ (v ∷ []))

  -- after the values vs come ws, and these are all
  pub data After : List A → List A → Type 0 where
    all : {vs : List A} → f.done vs ≡ true → After vs []
    also : {vs ws : List A} (v : A) → f.done vs ≡ false → Reads vs v → After (vs ++ (v ∷ [])) ws → After vs (v ∷ ws)

  -- the values of a good text
  abbrev pub Finished : List A → Type 0
  Finished vs = After [] vs

  -- t is wrong at line n: no good text has the same first n lines, and for each smaller number one has
  pub record WrongAt (t : List ℕ) (n : ℕ) : Type 0 where
    pub shared_by_none : (vs : List A) → Finished vs → SameLines n t (text_of vs) → ⊥
    pub shared_before : (k : ℕ) → k < n → (vs : List A) × (Finished vs × SameLines k t (text_of vs))
