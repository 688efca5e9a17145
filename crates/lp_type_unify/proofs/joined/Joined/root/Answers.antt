use Rattle.std.proofs.Common.{sym, nat_eq}
use Rattle.indexmap.specs.IndexMap.{get}
use Rattle.lp_type_unify.proofs.Roots.{root_up}
use Rattle.lp_type_unify.proofs.joined.Joined.root.Goals as goal

pub joined-preserved : goal.joined-preserved
joined-preserved c = λ τ θ n h. root_up τ θ n c.in-Some.next c.args.id c.joined.top (get nat_eq c.args.self.now.older c.joined.top.0) (sym c.in-Some.ensures) (h c.joined.top.0) (c.joined.invariant τ θ n h)
