use Rattle.lp_cert.proofs.Marking.{below_when, above_when}
use Rattle.lp_cert.proofs.known.Known.is_loose_below.Goals as goal

pub returns-clause-below : goal.returns-clause-below
returns-clause-below c = below_when c.args.bank.now _ c.args.term.0 c.args.depth c.term_fact-facts.result _ c.in_ok-find_terms.ensures.known c.in_ok-find_terms.ensures.all c.term_fact-facts.ensures c.fits_below.ensures.always

pub returns-clause-above : goal.returns-clause-above
returns-clause-above c = above_when c.args.bank.now _ c.args.term.0 c.args.depth c.term_fact-facts.result _ c.in_ok-find_terms.ensures.known c.in_ok-find_terms.ensures.all c.term_fact-facts.ensures c.fits_below.ensures.never
