-- The paper's fourteen worked examples, on two cells: one theorem about the rules. Assumes nothing.
use Rattle.std.specs.Prelude.{ℕ, ◌≡◌, refl, List, [], ◌∷◌}
use Rattle.std.proofs.Math.Option.{bind, or_else}
use Rattle.operation.specs.Limits.{limits}
use Rattle.operation.specs.FirstBytes.{fields_at, move_of, atomic_of, kind_of}
use Rattle.operation.specs.Tree.{op_size}
use Rattle.operation.specs.Reading.{read_parts, read_two, read_body, read_op, operation_of}
use Rattle.effect.specs.Running.{step, run}
use Rattle.effect.specs.Telling.{Told, told, succeeds, fails, malformed, tells}

abbrev pub cells : List ℕ
cells = 5 ∷ 0 ∷ []

abbrev pub on : List ℕ → List ℕ → Told
on c s = tells limits 2 s c

pub record Fourteen : Type 0 where
  pub need_5 : on cells (0x01 ∷ 0 ∷ 0 ∷ 5 ∷ []) ≡ told succeeds cells
  pub need_6 : on cells (0x01 ∷ 0 ∷ 0 ∷ 6 ∷ []) ≡ told fails cells
  pub draw_5 : on cells (0x03 ∷ 0 ∷ 0 ∷ 5 ∷ []) ≡ told succeeds (0 ∷ 0 ∷ [])
  pub put_on_full : on (5 ∷ 999_999 ∷ []) (0x02 ∷ 1 ∷ 0 ∷ 1 ∷ []) ≡ told fails (5 ∷ 999_999 ∷ [])
  pub put_to_full : on (5 ∷ 999_998 ∷ []) (0x02 ∷ 1 ∷ 0 ∷ 1 ∷ []) ≡ told succeeds (5 ∷ 999_999 ∷ [])
  pub empty_atomic : on cells (0x10 ∷ 0 ∷ []) ≡ told succeeds cells
  pub all_or_nothing : on cells (0x10 ∷ 2 ∷ 0x04 ∷ 0 ∷ 1 ∷ 0 ∷ 3 ∷ 0x04 ∷ 0 ∷ 1 ∷ 0 ∷ 3 ∷ []) ≡ told fails cells
  pub the_second : on cells (0x11 ∷ 0x04 ∷ 0 ∷ 1 ∷ 0 ∷ 6 ∷ 0x03 ∷ 0 ∷ 0 ∷ 2 ∷ []) ≡ told succeeds (3 ∷ 0 ∷ [])
  pub onto_itself : on cells (0x04 ∷ 0 ∷ 0 ∷ 0 ∷ 1 ∷ []) ≡ told malformed cells
  pub amount_0 : on cells (0x01 ∷ 0 ∷ 0 ∷ 0 ∷ []) ≡ told malformed cells
  pub amount_10000 : on cells (0x01 ∷ 0 ∷ 0x27 ∷ 0x10 ∷ []) ≡ told fails cells
  pub amount_10001 : on cells (0x01 ∷ 0 ∷ 0x27 ∷ 0x11 ∷ []) ≡ told malformed cells
  pub depth_4 : on cells (0x10 ∷ 1 ∷ 0x10 ∷ 1 ∷ 0x10 ∷ 1 ∷ 0x10 ∷ 0 ∷ []) ≡ told succeeds cells
  pub depth_5 : on cells (0x10 ∷ 1 ∷ 0x10 ∷ 1 ∷ 0x10 ∷ 1 ∷ 0x10 ∷ 1 ∷ 0x10 ∷ 0 ∷ []) ≡ told malformed cells

pub fourteen : Fourteen
unfolding fields_at move_of atomic_of kind_of op_size read_parts read_two read_body read_op operation_of step run tells bind or_else
fourteen = record {
  need_5 = refl;
  need_6 = refl;
  draw_5 = refl;
  put_on_full = refl;
  put_to_full = refl;
  empty_atomic = refl;
  all_or_nothing = refl;
  the_second = refl;
  onto_itself = refl;
  amount_0 = refl;
  amount_10000 = refl;
  amount_10001 = refl;
  depth_4 = refl;
  depth_5 = refl;
}
