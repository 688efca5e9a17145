use Rattle.lp_cert.proofs.arithmetic.turn_without.Goals as goal

pub returns-clause-on : goal.returns-clause-on
returns-clause-on c = λ e. c.without_form-compared.ensures.same (c.turn_of.ensures.on e)

pub returns-clause-no : goal.returns-clause-no
returns-clause-no c = λ e. c.without_form-compared.ensures.differ (c.turn_of.ensures.no e)

pub returns-clause-deep : goal.returns-clause-deep
returns-clause-deep c = λ e. c.without_form-compared.ensures.deep (c.turn_of.ensures.deep e)
