use Rattle.std.proofs.Common.{◌≡◌}
use Rattle.lp_copies.specs.Trees.{lists_in, IsCopying, frames_of, copy_load}
use Rattle.lp_module.specs.inner.Assembling.{IsMaking}
use Rattle.lp_module.proofs.copies.make.Given as goal

abbrev pub invariant-copies : goal.invariant-copies
invariant-copies l =
    IsCopying (lists_in l.uses.items) l.copying × (l.copying.root ≡ l.root) ×
    IsMaking l.modules l.root l.totals.items (frames_of l.copying) l.copying.left.items l.making l.around.items

abbrev pub decreases-copies : goal.decreases-copies
decreases-copies l = copy_load l.copying
