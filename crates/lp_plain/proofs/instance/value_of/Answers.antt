use Rattle.std.proofs.Common.{◌≡◌, ◌∙◌, sym, Some, None}
use Rattle.lp_plain.proofs.instance.value_of.Goals as goal

pub returns-clause-value : goal.returns-clause-value
returns-clause-value c = λ h nb nv vs w t g. let e : Some c.in-Some.value ≡ Some t = sym c.in-Some.is ∙ c.value.ensures nb nv vs w ∙ g in cc

pub returns-in_default-clause-value : goal.returns-in_default-clause-value
returns-in_default-clause-value c = λ h nb nv vs w t g. let e : None ≡ Some t = sym c.in_default.is ∙ c.value.ensures nb nv vs w ∙ g in absurd (cc)
