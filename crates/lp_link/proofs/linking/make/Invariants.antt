use Rattle.std.proofs.Common.{◌≡◌, ◌≤◌, ◌*◌, List, length, map, reverse}
use Rattle.std.specs.Prelude.{All}
use Rattle.lp_copies.specs.Trees.{lists_in, frames_of, IsCopying, copy_load}
use Rattle.lp_link.specs.Linked.{Copy}
use Rattle.lp_link.specs.inner.Entering.{IsPlan, IsShort, ends_of}
use Rattle.lp_link.specs.inner.Tabled.{IsComing}
use Rattle.lp_link.proofs.linking.make.Given as goal

abbrev pub invariant-copies : goal.invariant-copies
invariant-copies l =
    IsCopying (lists_in l.uses.items) l.copying × (l.copying.root ≡ l.root) × (length l.records.items ≤ 65535 * length l.copying.left.items) × All IsShort l.around.items
    × ((c : Copy) (below : List Copy) → IsPlan (map (λ m. m.object.now) l.members) l.root (map ends_of (reverse l.fn.firsts.items)) c below
    → IsComing (map (λ m. m.object.now) l.members) (frames_of l.copying) l.around.items (map ends_of (reverse l.coming.items)) c below l.making l.records.items)

abbrev pub decreases-copies : goal.decreases-copies
decreases-copies l = copy_load l.copying
