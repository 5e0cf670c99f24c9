use native.Mathlib.Omega.{arith}
use Rattle.operation.specs.Limits.{limits}
use mathlib.Core.Path.{ap, ◌∙◌}
use Rattle.lines.proofs.Laying.{laid_all}
use Rattle.hubtext.proofs.Saved.{write_short, write_done}
use Rattle.basics.specs.Over.{over}
use Rattle.hubtext.specs.Saving.{hub_text}
use Rattle.hubtext.proofs.write.Goals as goal

pub returns-then-buf-len : goal.returns-then-buf-len
returns-then-buf-len c =
    let n = (laid_all c.text-len.ensures).count in
    let p = write_short limits c.in_ok-h.h.hub c.args.buf.now c.in_ok-h.h.in_shape _ n (omega arith) in
    rw (← c.in_ok-h.ensures.hub) (record { value = p.0; buf_after = p.1 })

pub returns : goal.returns
returns c =
    let n = (laid_all c.text-len.ensures).count in
    let w = laid_all c.text.ensures in
    let p = write_done limits c.in_ok-h.h.hub c.args.buf.now c.in_ok-h.h.in_shape _ w.count _ (omega (arith, n, w.count))
    (w.text (omega (arith, n, w.count)) ∙ ap (λ x. over x (hub_text limits c.in_ok-h.h.hub) c.args.buf.now) w.count) in
    rw (← c.in_ok-h.ensures.hub) (record { value = p.0; buf_after = p.1 })
