use Rattle.lp_cert.proofs.Marking.{closed_when, open_when}
use Rattle.lp_cert.proofs.known.Known.is_closed_at.Goals as goal

pub returns-clause-closed : goal.returns-clause-closed
returns-clause-closed c = closed_when c.args.bank.now _ c.args.term.0 c.args.level c.term_fact-facts.result _ c.in_ok-find_terms.ensures.known c.in_ok-find_terms.ensures.all c.term_fact-facts.ensures c.has_nothing_open.ensures.always

pub returns-clause-open : goal.returns-clause-open
returns-clause-open c = open_when c.args.bank.now _ c.args.term.0 c.args.level c.term_fact-facts.result _ c.in_ok-find_terms.ensures.known c.in_ok-find_terms.ensures.all c.term_fact-facts.ensures c.has_nothing_open.ensures.never
