use Rattle.std.proofs.Common.{◌∙◌, sym, ap, refl, subst}
use Rattle.std.specs.Prelude.{not}
use Rattle.lp_standard.specs.Connectives.{connective_of}
use Rattle.lp_module.specs.Form.{has_form_by, is_term_by}
use Rattle.lp_module.specs.inner.Judging.{IsMeasure}
use Rattle.lp_module.proofs.Owning.{own_plain, own_term}
use Rattle.lp_module.proofs.judge.own.Goals as goal

pub returns-then-not-is_term-clause-own : goal.returns-then-not-is_term-clause-own
returns-then-not-is_term-clause-own c = λ p i.
    let same = sym c.requires.connective ∙ ap connective_of i.formula in
    own_plain c.args.heads.now p _ c.args.task.depth i.depth (λ d h. ap not (c.has_form-other.ensures d p h i ∙ ap (has_form_by d p) same))
    (ap (λ g. is_term_by g (connective_of p.formula)) (sym i.goal) ∙ ap (is_term_by c.args.task.goal) (sym same) ∙ sym (c.is_term.ensures c.args.bank.now) ∙ c.if-not-is_term.true) refl refl refl

pub returns-clause-own : goal.returns-clause-own
returns-clause-own c = λ p i.
    let same = sym c.requires.connective ∙ ap connective_of i.formula in
    own_term c.args.heads.now p _ c.args.task.depth i.depth (λ d h. ap not (c.has_form-other.ensures d p h i ∙ ap (has_form_by d p) same)) c.in_ok-measure.measure (subst (IsMeasure c.in_ok-measure.measure) i.formula c.in_ok-measure.ensures.measure)
    (ap (λ g. is_term_by g (connective_of p.formula)) (sym i.goal) ∙ ap (is_term_by c.args.task.goal) (sym same) ∙ sym (c.is_term.ensures c.args.bank.now) ∙ c.if-not-is_term.false) c.either.ensures refl refl
