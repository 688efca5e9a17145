use Rattle.std.proofs.Common.{◌∙◌, ap}
use Rattle.lp_cert.proofs.Marking.{fact_is}
use Rattle.lp_cert.proofs.known.Known.is_positive.Goals as goal

pub returns-clause-positive : goal.returns-clause-positive
returns-clause-positive c = ap (λ f. f.positive) c.term_fact.ensures ∙ (fact_is c.args.bank.now _ c.args.term.0 c.in_ok-find_terms.ensures.known c.in_ok-find_terms.ensures.all).positive_is
