use Rattle.std.proofs.Common.{◌∙◌, None, subst}
use Rattle.lp_verify.specs.inner.FirstNumbers.{IsArrowAs}
use Rattle.lp_verify.proofs.FirstTypes.{arrow_told}
use Rattle.lp_verify.proofs.types.Types.as_arrow.Goals as goal

pub returns-in-Arrow : goal.returns-in-Arrow
returns-in-Arrow c = λ T h.
    arrow_told c.args.self.now T c.in-Arrow.from.0 c.in-Arrow.to.0 c.first.result c.first-in-Arrow.result h.3 c.in-Arrow.ensures.within.0 c.in-Arrow.ensures.within.1 (c.in-Arrow.ensures.tree ∙ h.2) c.first.ensures c.first-in-Arrow.ensures

pub returns-in-Var : goal.returns-in-Var
returns-in-Var c = λ T h. subst (λ T. IsArrowAs c.args.self.now T None) (c.in-Var.ensures.tree ∙ h.2) tt

pub returns-in-Param : goal.returns-in-Param
returns-in-Param c = λ T h. subst (λ T. IsArrowAs c.args.self.now T None) (c.in-Param.ensures.tree ∙ h.2) tt

pub returns-in-Con : goal.returns-in-Con
returns-in-Con c = λ T h. subst (λ T. IsArrowAs c.args.self.now T None) (c.in-Con.ensures.tree ∙ h.2) tt
