use Rattle.std.proofs.Common.{[], length, refl}
use Rattle.lp_unify_laws.proofs.NormalForms.Typed.{side_weighs}
use Rattle.lp_unify_laws.proofs.Termination.Rules.{rule_comes}
use Rattle.lp_unify_laws.proofs.Termination.Pruning.{prunes_typed}
use Rattle.lp_unify_laws.proofs.outcomes.rules_for_typed_pairs_come.Goals as goal

pub returns : goal.returns
returns c = λ θ d V q p h.
    let a = side_weighs θ _ [] p.left q.type h.left in
    let b = side_weighs θ _ [] p.right q.type h.right in
    rule_comes (length V) p a.0 b.0 a.1 b.1 (prunes_typed d θ V (length V) p refl (q, h))
