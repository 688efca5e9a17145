use Rattle.std.proofs.Common.{◌≡◌}
use Rattle.indexmap.specs.IndexSet.{contains}
use Rattle.lp_copies.specs.Trees.{lists_in, frames_of, IsCopying, copy_load}
use Rattle.lp_link.specs.inner.Pairs.{pair_eq}
use Rattle.lp_link.specs.inner.Members.{AreCompared, IsComparing}
use Rattle.lp_link.proofs.linking.compare.Given as goal

abbrev pub invariant-copies : goal.invariant-copies
invariant-copies l =
    IsCopying (lists_in l.uses.items) l.copying × (l.copying.root ≡ l.root) × IsComparing l.members (lists_in l.uses.items) l.root
    (frames_of l.copying) l.around.items × AreCompared l.members (contains pair_eq l.compared.same)

abbrev pub decreases-copies : goal.decreases-copies
decreases-copies l = copy_load l.copying
