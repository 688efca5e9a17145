use Rattle.std.proofs.Common.{◌≡◌, List, [], ◌∷◌, map, reverse}
use Rattle.lp_copies.specs.Trees.{lists_in, frames_of, IsCopying, copy_load}
use Rattle.lp_link.specs.Linked.{Ends}
use Rattle.lp_link.specs.inner.Entering.{AreFirst, AreFew, AreFilled, begun, ends_of}
use Rattle.lp_link.proofs.linking.firsts_of.Given as goal

abbrev pub invariant-copies : goal.invariant-copies
invariant-copies l = IsCopying (lists_in l.uses.items) l.copying × (l.copying.root ≡ l.root)
    × ((all : List Ends) (end : Ends) → AreFirst (lists_in l.uses.items) l.counts.hidden_kinds.items l.counts.hidden_constants.items (l.root ∷ []) (begun l.fn.begin) all end → AreFew end
    → AreFilled (lists_in l.uses.items) l.counts.hidden_kinds.items l.counts.hidden_constants.items (begun l.ends) (frames_of l.copying) (reverse l.inside.items) (map ends_of l.firsts.items) all end)

abbrev pub decreases-copies : goal.decreases-copies
decreases-copies l = copy_load l.copying
