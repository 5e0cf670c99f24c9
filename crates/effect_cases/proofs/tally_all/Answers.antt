use native.Mathlib.Omega.{arith}
use Rattle.trial.proofs.Splitting.{few_lines}
use Rattle.effect_cases.proofs.tally_all.Goals as goal

pub loop-line-init : goal.loop-line-init
loop-line-init g c =
    (tt, tt, omega arith, rw c.into_iter-line-iterator.ensures.into_iter_gives (omega (arith, few_lines c.args.text.now)))
