use Rattle.std.proofs.Common.{subst, arith}
use Rattle.lp_term.specs.Nodes.{tree}
use Rattle.lp_cert.specs.Same.{IsFormed}
use Rattle.lp_cert.proofs.Comparisons.{compare_same}
use Rattle.lp_cert.proofs.Verdicts.{if_ok_always}
use Rattle.lp_term.proofs.Trees.{extends_same}
use Rattle.lp_cert.proofs.Matching.{forms_differ, never_deep, no_form_is, one_is_large, ready_loose}
use Rattle.lp_cert.proofs.Ready.{ready_later}
use Rattle.lp_cert.specs.declared.form.Formed.TheVariants as formed
use Rattle.lp_cert.proofs.form.compare.Goals as goal

pub returns-clause-same : goal.returns-clause-same
returns-clause-same c =
    compare_same c.args.bank.now _ _ c.args.left c.args.right c.in-Is.one c.in-Is-second.other c.same_forms.result c.in_ok-first.ensures.kept c.in_ok-second.ensures.kept (c.is_inside-2.ensures.inside c.if-not-is_inside-2.false)
    (subst (IsFormed (tree c.args.bank.now c.args.left.0) _) c.in-Is.is c.in_ok-first.ensures.formed) (subst (IsFormed _ _) c.in-Is-second.is c.in_ok-second.ensures.formed) c.same_forms.ensures.same

pub returns-clause-inside : goal.returns-clause-inside
returns-clause-inside c = if_ok_always c.same_forms.result _ (λ v e. (c.is_inside.ensures.inside c.if-not-is_inside.false, c.is_inside-2.ensures.inside c.if-not-is_inside-2.false))

pub returns-then-not-is_inside-clause-differ : goal.returns-then-not-is_inside-clause-differ
returns-then-not-is_inside-clause-differ c = λ e r s k. let l = r.0 in omega (arith, l, c.is_inside.ensures.outside c.if-not-is_inside.true)

pub returns-then-not-is_inside-2-clause-differ : goal.returns-then-not-is_inside-2-clause-differ
returns-then-not-is_inside-2-clause-differ c = λ e r s k. let l = s.0 in omega (arith, l, c.is_inside-2.ensures.outside c.if-not-is_inside-2.true)

pub returns-in_default-clause-differ : goal.returns-in_default-clause-differ
returns-in_default-clause-differ c = λ e r s k.
    let on = c.in_ok-first.ensures.kept in
    no_form_is c.in_ok-first.first c.in_ok-second.second (λ o. c.in_ok-first.ensures.open o r.0 (ready_loose _ _ c.args.left (extends_same _) r))
    (λ o. c.in_ok-second.ensures.open o (ready_later _ _ c.args.right on s).0 (ready_loose _ _ c.args.right on s))
    (λ x y f g. c.in_default.not-Is x f) (c.without_form.ensures.differ e)

pub returns-in_default-clause-deep : goal.returns-in_default-clause-deep
returns-in_default-clause-deep c = λ e l m.
    one_is_large (tree c.args.bank.now c.args.left.0) (tree c.args.bank.now c.args.right.0) c.form_of.new.bank c.form_of-2.new.bank
    c.in_ok-first.first c.in_ok-second.second c.in_ok-first.ensures.formed (subst (λ x. IsFormed x c.form_of-2.new.bank c.in_ok-second.second)
    (c.in_ok-first.ensures.kept.same_terms c.args.right.0 m) c.in_ok-second.ensures.formed) (c.without_form.ensures.deep e)

pub returns-in_default-second-clause-differ : goal.returns-in_default-second-clause-differ
returns-in_default-second-clause-differ c = λ e r s k.
    let on = c.in_ok-first.ensures.kept in
    no_form_is (formed.Is c.in-Is.one) c.in_ok-second.second (λ o. absurd (cc)) (λ o. c.in_ok-second.ensures.open o (ready_later _ _ c.args.right on s).0 (ready_loose _ _ c.args.right on s)) (λ x y f g. c.in_default-second.not-Is y g) (c.without_form-in_default-second.ensures.differ e)

pub returns-in_default-second-clause-deep : goal.returns-in_default-second-clause-deep
returns-in_default-second-clause-deep c = λ e l m.
    one_is_large (tree c.args.bank.now c.args.left.0) (tree c.args.bank.now c.args.right.0) c.form_of.new.bank c.form_of-2.new.bank
    (formed.Is c.in-Is.one) c.in_ok-second.second (subst (IsFormed (tree c.args.bank.now c.args.left.0) c.form_of.new.bank) c.in-Is.is
    c.in_ok-first.ensures.formed) (subst (λ x. IsFormed x c.form_of-2.new.bank c.in_ok-second.second)
    (c.in_ok-first.ensures.kept.same_terms c.args.right.0 m) c.in_ok-second.ensures.formed) (c.without_form-in_default-second.ensures.deep e)

pub returns-clause-differ : goal.returns-clause-differ
returns-clause-differ c =
    forms_differ c.args.bank.now _ _ c.args.left c.args.right c.in-Is.one c.in-Is-second.other c.same_forms.result c.in_ok-first.ensures.kept c.in_ok-second.ensures.kept (c.is_inside-2.ensures.inside c.if-not-is_inside-2.false)
    (subst (IsFormed (tree c.args.bank.now c.args.left.0) _) c.in-Is.is c.in_ok-first.ensures.formed) (subst (IsFormed _ _) c.in-Is-second.is c.in_ok-second.ensures.formed) c.same_forms.ensures.differ

pub returns-clause-deep : goal.returns-clause-deep
returns-clause-deep c = never_deep c.same_forms.result _ c.same_forms.ensures.known_forms
