use Rattle.std.proofs.Common.{◌∙◌, ap, sym}
use Rattle.lp_calculus.specs.Types.{instance as put_in}
use Rattle.lp_standard.specs.Schemes.{shape_type}
use Rattle.lp_sig.proofs.Instances.{two_sides}
use Rattle.lp_infer.proofs.Copying.{ok_type, ok_put, type_stays}
use Rattle.lp_infer.proofs.standard.shape_instance.Goals as goal

pub returns-in-Value-clause-tree : goal.returns-in-Value-clause-tree
returns-in-Value-clause-tree c = λ φ h. ok_type c.part_instance.result c.part_instance.new.bank _ _ (sym (ap (λ s. put_in φ (shape_type s)) c.in-Value.is)) (c.part_instance.ensures.tree φ h)

pub returns-in_ok-right-in-Function-clause-tree : goal.returns-in_ok-right-in-Function-clause-tree
returns-in_ok-right-in-Function-clause-tree c = λ φ h.
    let left = c.in_ok-left-in-Function.ensures in
    let right = c.in_ok-right-in-Function.ensures in
    let from = type_stays _ _ right.kept c.in_ok-left-in-Function.left _ (left.tree φ h) in
    let to = right.tree φ (type_stays _ _ left.kept c.args.at (φ 0) h) in
    ok_put c.put_arrow.result c.put_arrow.new.bank _ _ (two_sides _ _ _ _ from.1 to.1 ∙ sym (ap (λ s. put_in φ (shape_type s)) c.in-Function.is)) c.put_arrow.ensures.within c.put_arrow.ensures.tree

pub returns-in_ok-inner-in-Operation-clause-tree : goal.returns-in_ok-inner-in-Operation-clause-tree
returns-in_ok-inner-in-Operation-clause-tree c = λ φ h.
    let left = c.in_ok-left-in-Operation.ensures in
    let middle = c.in_ok-middle-in-Operation.ensures in
    let right = c.in_ok-right-in-Operation.ensures in
    let inner = c.in_ok-inner-in-Operation.ensures in
    let second = type_stays _ _ left.kept c.args.at (φ 0) h in
    let third = type_stays _ _ middle.kept c.args.at (φ 0) second in
    let one = type_stays _ _ inner.kept c.in_ok-left-in-Operation.left _ (type_stays _ _ right.kept c.in_ok-left-in-Operation.left _ (type_stays _ _ middle.kept c.in_ok-left-in-Operation.left _ (left.tree φ h))) in
    let two = type_stays _ _ right.kept c.in_ok-middle-in-Operation.middle _ (middle.tree φ second) in
    ok_put c.put_arrow-in-Operation-2.result c.put_arrow-in-Operation-2.new.bank _ _
    (two_sides _ _ _ _ one.1 (inner.tree ∙ two_sides _ _ _ _ two.1 (right.tree φ third).1) ∙ sym (ap (λ s. put_in φ (shape_type s)) c.in-Operation.is)) c.put_arrow-in-Operation-2.ensures.within c.put_arrow-in-Operation-2.ensures.tree
