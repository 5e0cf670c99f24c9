-- A text is read exactly where it is the text of values that are all; else the line that is told is the first that no good
-- text has. This is shown of any form whose lines are read as they are written. Assumes nothing.
use Prim.Native.Nat.{ℕ, zero, suc, ◌+◌, ◌<◌}
use native.Mathlib.Omega.{arith}
use mathlib.Core.Bool.{Bool, true, false}
use mathlib.Core.List.{List, [], ◌∷◌, ◌++◌, append_assoc, append-nil}
use mathlib.Core.Path.{◌≡◌, refl, sym, ap, subst, ◌∙◌}
use lib.ListN.{length, length-append}
use Rattle.lines.specs.Fields.{LF, Read, got, wrong}
use Rattle.lines.specs.Same.{NoLF, SameLines}
use Rattle.lines.specs.Texts.{
  Result,
  values,
  wrong_at,
  Form,
  text_of,
  ending,
  run,
  read,
  Reads,
  Chain,
  start,
  step,
  After,
  all,
  also,
  Finished,
  WrongAt,
}
use Rattle.lines.proofs.Sharing.{no_lines, grow, none_of_empty, Peeled, peel}

-- the laws of a form: a line that is read is the line of its value, has no LF within, and is read so whatever follows; and
-- whatever was read can be gone on with to the end
pub record Line {A : Type 0} (f : Form A) (vs : List A) (t : List ℕ) (v : A) (r : List ℕ) : Type 0 where
  pub text : t ≡ f.line v ++ (LF ∷ r)
  pub no_lf : NoLF (f.line v)
  pub again : Reads f vs v

pub record Lawful {A : Type 0} (f : Form A) : Type 0 where
  pub reads : (vs : List A) (t : List ℕ) (v : A) (r : List ℕ) → Chain f vs → f.next vs t ≡ got v r → Line f vs t v r
  pub finish : (vs : List A) → Chain f vs → (ws : List A) × After f vs ws

module _ {A : Type 0} (f : Form A) (laws : Lawful f) where
  -- what a run comes to, by what stands there
  module _ (k : ℕ) (vs : List A) (t : List ℕ) where
    run_more :
        f.done vs ≡ false → (v : A) (r : List ℕ) → f.next vs t ≡ got v r →
        run f (suc k) vs t ≡ run f k (vs ++ (v ∷ [])) r
    unfolding run
    run_more d v r e = rw (d, e)

    run_wrong : f.done vs ≡ false → f.next vs t ≡ wrong → run f (suc k) vs t ≡ wrong_at (suc (length vs))
    unfolding run
    run_wrong d e = rw (d, e)

    run_end : f.done vs ≡ true → run f (suc k) vs t ≡ ending f vs t
    unfolding run
    run_end d = rw d

  -- a line is at least its LF
  shorter : (l r : List ℕ) → length r < length (l ++ (LF ∷ r))
  shorter l r = rw (length-append l (LF ∷ r)) (omega arith)

  same_value : {v w : A} {r s : List ℕ} → ◌≡◌ {A = Read A} (got v r) (got w s) → (v ≡ w) × (r ≡ s)
  same_value e = (cc, cc)

  unfold_zero : (vs : List A) (t : List ℕ) → run f zero vs t ≡ wrong_at zero
  unfolding run
  unfold_zero vs t = refl

  text_none : [] ≡ text_of f []
  unfolding text_of
  text_none = refl

  text_more : (v : A) (ws : List A) → f.line v ++ (LF ∷ text_of f ws) ≡ text_of f (v ∷ ws)
  unfolding text_of
  text_more v ws = refl

  -- a run does not both find a fault and read all
  not_wrong :
      {B : Type 0} {x : Result A} {n : ℕ} {us : List A} → x ≡ wrong_at n → x ≡ values us → B
  not_wrong {x = x} {n = n} {us = us} p q =
      let e : ◌≡◌ {A = Result A} (wrong_at n) (values us) = sym p ∙ q in
      let z : ◌≡◌ {A = ℕ} 0 1 = cc in absurd (omega arith)

  -- what is written is read
  pub written_read :
      (k : ℕ) (vs ws : List A) → After f vs ws → length (text_of f ws) < k →
      run f k vs (text_of f ws) ≡ values (vs ++ ws)
  unfolding text_of
  written_read zero vs ws a h = absurd (omega arith)
  written_read (suc k) vs _ (all d) h = run_end k vs [] d ∙ ap values (sym (append-nil vs))
  written_read (suc k) vs _ (also {ws = ws} v d reads a) h =
      run_more k vs (f.line v ++ (LF ∷ text_of f ws)) d v (text_of f ws) (reads (text_of f ws)) ∙
      (written_read k (vs ++ (v ∷ [])) ws a (omega (arith, shorter (f.line v) (text_of f ws), h)) ∙ ap values
      (append_assoc vs (v ∷ []) ws))

  -- what is read was written
  pub record Rest (vs us : List A) (t : List ℕ) : Type 0 where
    pub ws : List A
    pub is : us ≡ vs ++ ws
    pub after : After f vs ws
    pub text : t ≡ text_of f ws

  pub read_written :
      (k : ℕ) (vs : List A) (t : List ℕ) (us : List A) → Chain f vs → run f k vs t ≡ values us → Rest vs us t
  read_written zero vs t us c e = not_wrong (unfold_zero vs t) e
  read_written (suc k) vs t us c e =
      go (λ v r d g. read_written k (vs ++ (v ∷ [])) r us d g) (f.done vs) refl (f.next vs t) refl
    where
      ended : (u : List ℕ) → t ≡ u → f.done vs ≡ true → Rest vs us t
      ended [] q d =
          let g : values vs ≡ values us = sym (run_end k vs t d ∙ ap (ending f vs) q) ∙ e in
          let is : vs ≡ us = cc in
          record { ws = []; is = sym is ∙ sym (append-nil vs); after = all d; text = q ∙ text_none }
      ended (b ∷ u) q d = not_wrong (run_end k vs t d ∙ ap (ending f vs) q) e

      go :
          ((v : A) (r : List ℕ) → Chain f (vs ++ (v ∷ [])) → run f k (vs ++ (v ∷ [])) r ≡ values us →
          Rest (vs ++ (v ∷ [])) us r) → (d : Bool) → f.done vs ≡ d → (n : Read A) → f.next vs t ≡ n → Rest vs us t
      go ih true d n q = ended t refl d
      go ih false d wrong q = not_wrong (run_wrong k vs t d q) e
      go ih false d (got v r) q =
          let line = laws.reads vs t v r c q in
          let i = ih v r (step v c d line.again) (sym (run_more k vs t d v r q) ∙ e) in
          record {
            ws = v ∷ i.ws;
            is = i.is ∙ append_assoc vs (v ∷ []) i.ws;
            after = also v d line.again i.after;
            text = line.text ∙ (ap (λ x. f.line v ++ (LF ∷ x)) i.text ∙ text_more v i.ws);
          }

  -- a run that finds a fault after the values vs tells a later line, and says how many lines of its text were read
  not_values : {B : Type 0} {x : Result A} {n : ℕ} {us : List A} → x ≡ values us → x ≡ wrong_at n → B
  not_values p q = not_wrong q p

  -- what a run that finds a fault has read before it
  pub record Faulty (vs : List A) (t : List ℕ) (n : ℕ) : Type 0 where
    pub later : length vs < n
    pub shared : (k : ℕ) → length vs + k < n → (ws : List A) × (After f vs ws × SameLines k t (text_of f ws))

  same_fault : {m n : ℕ} → ◌≡◌ {A = Result A} (wrong_at m) (wrong_at n) → m ≡ n
  same_fault e = cc

  -- a fault at the next line: what was read so far can be gone on with
  at_once : (vs : List A) (t : List ℕ) (n : ℕ) → Chain f vs → suc (length vs) ≡ n → Faulty vs t n
  at_once vs t n c i = record {
    later = omega (arith, i);
    shared = λ k h.
        let z : k ≡ 0 = omega (arith, i) in
        let g = laws.finish vs c in
        (g.0, (g.1, subst (λ (x : ℕ). SameLines x t (text_of f g.0)) (sym z) (no_lines t (text_of f g.0))));
  }

  -- one line more in front of what good texts share
  one_more :
      (vs : List A) (t : List ℕ) (n : ℕ) (v : A) (r : List ℕ) → Chain f vs → f.done vs ≡ false → Line f vs t v r →
      Faulty (vs ++ (v ∷ [])) r n → Faulty vs t n
  one_more vs t n v r c d line i = record {
    later = omega (arith, i.later, length-append vs (v ∷ []));
    shared = go;
  }
    where
      go : (k : ℕ) → length vs + k < n → (ws : List A) × (After f vs ws × SameLines k t (text_of f ws))
      go zero h = let g = laws.finish vs c in (g.0, (g.1, no_lines t (text_of f g.0)))
      go (suc k) h =
          let g = i.shared k (omega (arith, h, length-append vs (v ∷ []))) in (
            v ∷ g.0,
            (
              also v d line.again g.1.0,
              subst (λ (x : List ℕ). SameLines (suc k) t x) (text_more v g.0)
                  (subst (λ (x : List ℕ). SameLines (suc k) x (f.line v ++ (LF ∷ text_of f g.0))) (sym line.text)
                  (grow k (f.line v) r (text_of f g.0) line.no_lf g.1.1)),
            ),
          )

  pub faulty :
      (k : ℕ) (vs : List A) (t : List ℕ) (n : ℕ) → Chain f vs → length t < k → run f k vs t ≡ wrong_at n →
      Faulty vs t n
  faulty zero vs t n c h e = absurd (omega arith)
  faulty (suc k) vs t n c h e =
      go (λ v r d l g. faulty k (vs ++ (v ∷ [])) r n d l g) (f.done vs) refl (f.next vs t) refl
    where
      ended : (u : List ℕ) → t ≡ u → f.done vs ≡ true → Faulty vs t n
      ended [] q d = not_values (run_end k vs t d ∙ ap (ending f vs) q) e
      ended (b ∷ u) q d = at_once vs t n c (same_fault (sym (run_end k vs t d ∙ ap (ending f vs) q) ∙ e))

      go :
          ((v : A) (r : List ℕ) → Chain f (vs ++ (v ∷ [])) → length r < k →
          run f k (vs ++ (v ∷ [])) r ≡ wrong_at n → Faulty (vs ++ (v ∷ [])) r n) → (d : Bool) → f.done vs ≡ d →
          (x : Read A) → f.next vs t ≡ x → Faulty vs t n
      go ih true d x q = ended t refl d
      go ih false d wrong q = at_once vs t n c (same_fault (sym (run_wrong k vs t d q) ∙ e))
      go ih false d (got v r) q =
          let line = laws.reads vs t v r c q in
          let l : length r < k = omega (arith, ap length line.text, shorter (f.line v) r, h) in
          one_more vs t n v r c d line (ih v r (step v c d line.again) l (sym (run_more k vs t d v r q) ∙ e))

  -- no good text that goes on from vs has the lines up to the fault
  pub none_shares :
      (k : ℕ) (vs : List A) (t : List ℕ) (m : ℕ) (ws : List A) → Chain f vs → After f vs ws → length t < k →
      run f k vs t ≡ wrong_at (length vs + suc m) → SameLines (suc m) t (text_of f ws) → ⊥
  none_shares zero vs t m ws c a h e s = absurd (omega arith)
  none_shares (suc k) vs t m _ c (all d) h e s =
      none_of_empty m t (subst (λ (x : List ℕ). SameLines (suc m) t x) (sym text_none) s)
  none_shares (suc k) vs t m _ c (also {ws = ws} w d reads a) h e s =
      go (λ r j. none_shares k (vs ++ (w ∷ [])) r j ws) m refl
    where
      own : NoLF (f.line w)
      own = (laws.reads vs (f.line w ++ (LF ∷ [])) w [] c (reads [])).no_lf

      p : Peeled m (f.line w) t (text_of f ws)
      p = peel m (f.line w) t (text_of f ws) own
          (subst (λ (x : List ℕ). SameLines (suc m) t x) (sym (text_more w ws)) s)

      next_is : f.next vs t ≡ got w p.rest
      next_is = ap (f.next vs) p.text ∙ reads p.rest

      on : run f k (vs ++ (w ∷ [])) p.rest ≡ wrong_at (length vs + suc m)
      on = sym (run_more k vs t d w p.rest next_is) ∙ e

      short : length p.rest < k
      short = omega (arith, ap length p.text, shorter (f.line w) p.rest, h)

      longer : Chain f (vs ++ (w ∷ []))
      longer = step w c d reads

      one : length (vs ++ (w ∷ [])) ≡ length vs + 1
      one = length-append vs (w ∷ [])

      go :
          ((r : List ℕ) (j : ℕ) → Chain f (vs ++ (w ∷ [])) → After f (vs ++ (w ∷ [])) ws → length r < k →
          run f k (vs ++ (w ∷ [])) r ≡ wrong_at (length (vs ++ (w ∷ [])) + suc j) →
          SameLines (suc j) r (text_of f ws) → ⊥) → (j : ℕ) → m ≡ j → ⊥
      go ih zero q =
          let i = (faulty k (vs ++ (w ∷ [])) p.rest (length vs + suc m) longer short on).later in
          omega (arith, i, one, q)
      go ih (suc j) q =
          let n : length vs + suc m ≡ length (vs ++ (w ∷ [])) + suc j = omega (arith, one, q) in
          ih p.rest j longer a short (on ∙ ap wrong_at n)
          (subst (λ (x : ℕ). SameLines x p.rest (text_of f ws)) q p.same)

  -- reading a text: its values exactly where it is a good text, and else the line that is wrong
  pub read_good : (vs : List A) → Finished f vs → read f (text_of f vs) ≡ values vs
  unfolding read
  read_good vs a = written_read (suc (length (text_of f vs))) [] vs a (omega arith)

  pub good_read : (t : List ℕ) (vs : List A) → read f t ≡ values vs → Finished f vs × (t ≡ text_of f vs)
  unfolding read
  good_read t vs e =
      let r = read_written (suc (length t)) [] t vs start e in
      (subst (λ (x : List A). After f [] x) (sym r.is) r.after, r.text ∙ ap (text_of f) (sym r.is))

  pub wrong_read : (t : List ℕ) (n : ℕ) → read f t ≡ wrong_at n → WrongAt f t n
  unfolding read
  wrong_read t n e = record { shared_by_none = no n e; shared_before = λ k h. i.shared k (omega (arith, h)) }
    where
      i : Faulty [] t n
      i = faulty (suc (length t)) [] t n start (omega arith) e

      no :
          (m : ℕ) → run f (suc (length t)) [] t ≡ wrong_at m → (vs : List A) → Finished f vs →
          SameLines m t (text_of f vs) → ⊥
      no zero q vs a s = let g = (faulty (suc (length t)) [] t zero start (omega arith) q).later in omega (arith, g)
      no (suc m) q vs a s =
          let z : suc m ≡ 0 + suc m = omega arith in
          none_shares (suc (length t)) [] t m vs start a (omega arith) (q ∙ ap wrong_at z) s
