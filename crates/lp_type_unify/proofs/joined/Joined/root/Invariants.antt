use Rattle.std.proofs.Common.{ℕ, nat_eq}
use Rattle.indexmap.specs.IndexMap.{get}
use Rattle.lp_calculus.specs.Types.{Ty}
use Rattle.lp_type_unify.specs.Sharing.{AreJoined, IsRoot}
use Rattle.lp_type_unify.proofs.joined.Joined.root.Given as goal

abbrev pub invariant-joined : goal.invariant-joined
invariant-joined l = (τ θ : ℕ → Ty) → (n : ℕ) → AreJoined τ n θ (get nat_eq l.self.older) → IsRoot τ n θ l.fn.id l.top

abbrev pub decreases-joined : goal.decreases-joined
decreases-joined l = l.top.0
