use Rattle.machine.specs.Recording.{as_issued}
use Rattle.machine.proofs.Queueing.{sound_at}
use Rattle.machine.proofs.GoodShape.{good}
use Rattle.operation.proofs.Packing.{same_slices}
use Rattle.operation.specs.Packing.{same_bytes, unpacked, nothing}
use mathlib.Core.Path.{◌≡◌, ◌∙◌, ap}
use lib.ListN.{get_or}
use Rattle.operation.specs.Limits.{limits}
use native.Mathlib.Omega.{arith}
use Prim.Native.Nat.{◌<◌}
use borrow.Author.Rules.{rules}
use Rattle.machine.proofs.in_shape.InShape.as_issued.Goals.{then-self-gt0, else-self-gt0}
use Rattle.machine.proofs.in_shape.InShape.as_issued.Goals as goal

pub op-requires : goal.op-requires
op-requires c =
    let m = c.args.self.now in
    let waits : 0 < m.machine.waiting =
    elim c.if-self-gt0.branch [ then-self-gt0 w ↦ omega arith | else-self-gt0 w ↦ search rules ] in
    (sound_at limits m.machine (good limits m.machine m.in_shape) 0 waits).fits

pub returns-then-number-self : goal.returns-then-number-self
unfolding as_issued
returns-then-number-self c =
    let m = c.args.self.now.machine in
    let same : c.eq.result ≡ same_bytes (unpacked (get_or m.queue 0 nothing)) c.args.op.now =
    c.eq.ensures ∙ (same_slices c.op.result.now c.args.op.now ∙ ap (λ s. same_bytes s c.args.op.now) c.op.ensures.value) in
    search rules
