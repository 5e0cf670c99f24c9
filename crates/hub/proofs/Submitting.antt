-- Laws of submitting: a call out of range, one that is none, and an operation that is next. Assumes nothing.
use Prim.Native.Nat.{ℕ, ◌≤◌, ◌<◌}
use native.Mathlib.Omega.{arith}
use mathlib.Core.Bool.{true}
use mathlib.Core.List.{List}
use mathlib.Core.Path.{◌≡◌}
use borrow.Author.Tests.{lt-ltb, le-ltb}
use Rattle.basics.specs.declared.Refusal.TheVariants.{OutOfRange}
use Rattle.operation.specs.Limits.{Limits}
use Rattle.operation.specs.Reading.{well_formed}
use Rattle.effect.specs.Running.{Came}
use Rattle.state.specs.Numbers.{most_issued}
use Rattle.hub.specs.Ring.{next_of}
use Rattle.hub.specs.Shape.{shaped}
use Rattle.hub.specs.Submitting.{not_submitted, ran, taken, submit_known, submit_of}
use Rattle.hub.specs.declared.Hub.{Hub}

module _ (l : Limits) (h : Hub) (machine number : ℕ) (op : List ℕ) where
  module _ (in-shape : shaped l h ≡ true) where
    pub no_machine : h.machines ≤ machine → not_submitted OutOfRange h ≡ submit_of l h machine number op
    unfolding submit_of
    no_machine e = simp (in-shape, le-ltb machine h.machines e)

    module _ (a : machine < h.machines) where
      pub no_number : most_issued ≤ number → not_submitted OutOfRange h ≡ submit_of l h machine number op
      unfolding submit_of
      no_number e = simp (in-shape, lt-ltb machine h.machines a, le-ltb number most_issued e)

      module _ (b : number < most_issued) where
        pub submit_known_lem :
            well_formed l h.width op ≡ true → submit_known l h machine number op ≡ submit_of l h machine number op
        unfolding submit_of
        submit_known_lem e = simp (in-shape, lt-ltb machine h.machines a, lt-ltb number most_issued b, e)

  pub is_next :
      (q : Came) → number ≡ next_of h machine → q ≡ ran l h op →
      taken l h machine number op q ≡ submit_known l h machine number op
  unfolding submit_known
  is_next q i e =
      rw e
      (simp (le-ltb number (next_of h machine) (omega (arith, i)), le-ltb (next_of h machine) number (omega (arith, i))))
