use Rattle.std.proofs.Common.{ap, ◌∙◌, Some}
use Rattle.lp_sig.proofs.settle.declared_by.Goals as goal

pub returns-in-Abbreviation-clause-is : goal.returns-in-Abbreviation-clause-is
returns-in-Abbreviation-clause-is g c = (c.in-Abbreviation.field-0, c.in-Abbreviation.parameters, c.in_ok-parameters.ensures.is ∙ ap (λ d. Some d) c.in-Abbreviation.is, c.as_slice.ensures.value)
