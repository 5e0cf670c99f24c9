use native.Mathlib.Omega.{arith}
use lib.ListN.{length}
use Prim.Native.Nat.{◌<◌}
use mathlib.Core.Path.{◌∙◌}
use Rattle.lines.specs.Steps.{FieldSays}
use Rattle.lines.proofs.Passing.{to_end, inner_start, past_end, stops_short, goes_on, goes_wrong, goes_out}
use Rattle.lines.proofs.Cursor.field.Goals as goal

pub returns-in_err-rest : goal.returns-in_err-rest
unfolding FieldSays
returns-in_err-rest c = rw c.from_residual.ensures (let over : length c.args.s.now < c.args.self.at = omega (arith, c.in_err-rest.ensures.lookup) in past_end _ _ c.args.f over)

pub loop-i-init : goal.loop-i-init
loop-i-init c = inner_start _ _ c.requires

pub returns-in_err-further : goal.returns-in_err-further
unfolding FieldSays
returns-in_err-further c =
    let e = c.in_ok-rest.ensures.lookup.0.2 ∙ to_end c.args.s.now c.args.self.at in
    rw c.from_residual-in_err-further.ensures (rw e at (goes_wrong _ _ _ _ c.loop-i.invariant (omega arith) c.in_err-further.ensures.goes))

pub returns-in-Ended : goal.returns-in-Ended
unfolding FieldSays
returns-in-Ended c =
    let e = c.in_ok-rest.ensures.lookup.0.2 ∙ to_end c.args.s.now c.args.self.at in
    goes_out _ _ _ _ c.loop-i.invariant (omega arith) _ _ _ _ e c.in-Ended.is c.in_ok-further.ensures.goes c.in_ok-further.ensures.kept

pub loop-i-preserved : goal.loop-i-preserved
loop-i-preserved c = goes_on _ _ _ _ c.loop-i.invariant (omega arith) _ _ c.in-More.is c.in_ok-further.ensures.goes c.in_ok-further.ensures.kept

pub returns : goal.returns
unfolding FieldSays
returns c =
    let e = c.in_ok-rest.ensures.lookup.0.2 ∙ to_end c.args.s.now c.args.self.at in
    rw e at (stops_short _ _ _ _ c.loop-i.invariant (omega arith))
