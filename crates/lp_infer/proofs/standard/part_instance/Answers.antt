use Rattle.std.proofs.Common.{◌∙◌, [], ◌∷◌, ap, sym}
use Rattle.lp_calculus.specs.Types.{instance as put_in, con, tys}
use Rattle.lp_standard.specs.Schemes.{part_type}
use Rattle.lp_sig.proofs.Instances.{two_sides}
use Rattle.lp_infer.proofs.Copying.{ok_type, ok_put}
use Rattle.lp_infer.proofs.standard.part_instance.Goals as goal

pub returns-in-Proposition-clause-tree : goal.returns-in-Proposition-clause-tree
returns-in-Proposition-clause-tree c = λ φ h.
    ok_put c.put_kind.result c.put_kind.new.bank _ _ (sym (ap (λ p. put_in φ (part_type p)) c.in-Proposition.is)) c.put_kind.ensures.within c.put_kind.ensures.tree

pub returns-in-Integer-clause-tree : goal.returns-in-Integer-clause-tree
returns-in-Integer-clause-tree c = λ φ h.
    ok_put c.put_kind-in-Integer.result c.put_kind-in-Integer.new.bank _ _ (sym (ap (λ p. put_in φ (part_type p)) c.in-Integer.is)) c.put_kind-in-Integer.ensures.within c.put_kind-in-Integer.ensures.tree

pub returns-in-String-clause-tree : goal.returns-in-String-clause-tree
returns-in-String-clause-tree c = λ φ h.
    ok_put c.put_kind-in-String.result c.put_kind-in-String.new.bank _ _ (sym (ap (λ p. put_in φ (part_type p)) c.in-String.is)) c.put_kind-in-String.ensures.within c.put_kind-in-String.ensures.tree

pub returns-in-Any-clause-tree : goal.returns-in-Any-clause-tree
returns-in-Any-clause-tree c = λ φ h. (h.0, h.1 ∙ sym (ap (λ p. put_in φ (part_type p)) c.in-Any.is))

pub returns-in-ListOfAny-clause-tree : goal.returns-in-ListOfAny-clause-tree
returns-in-ListOfAny-clause-tree c = λ φ h.
    ok_type c.put_list.result c.put_list.new.bank _ _ (ap (λ T. con 3 (tys (T ∷ []))) h.1 ∙ sym (ap (λ p. put_in φ (part_type p)) c.in-ListOfAny.is)) c.put_list.ensures.tree

pub returns-in_ok-goal-in-Predicate-clause-tree : goal.returns-in_ok-goal-in-Predicate-clause-tree
returns-in_ok-goal-in-Predicate-clause-tree c = λ φ h.
    ok_put c.put_arrow.result c.put_arrow.new.bank _ _
    (two_sides _ _ _ _ (c.put_kind-in-Predicate.ensures.kept.same_types c.args.at.0 h.0 ∙ h.1) c.in_ok-goal-in-Predicate.ensures.tree ∙ sym (ap (λ p. put_in φ (part_type p)) c.in-Predicate.is))
    c.put_arrow.ensures.within c.put_arrow.ensures.tree
