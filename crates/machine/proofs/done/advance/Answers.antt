use Rattle.machine.proofs.Queueing.{advance_end}
use Rattle.operation.specs.Packing.{empty}
use Rattle.operation.specs.declared.Packed.{Packed}
use Rattle.operation.specs.Limits.{limits}
use lib.ListN.{drop, replicate}
use mathlib.Core.List.{List, ◌++◌}
use mathlib.Core.Path.{◌∙◌, ap}
use Prim.Native.Nat.{◌-◌}
use borrow.Author.Rules.{rules}
use Rattle.machine.proofs.done.advance.Goals as goal

pub returns : goal.returns
returns c =
    ap (λ (xs : List Packed). xs ++ drop (16 - c.args.n) (replicate 16 (empty limits))) c.copy_from_slice.ensures.after ∙
    advance_end limits c.args.n c.args.queue.now c.requires (search rules)
