use Rattle.lp_cert.proofs.Filled.{term_filled}
use Rattle.lp_cert.proofs.instance.term_at.Goals as goal

pub returns-clause-tree : goal.returns-clause-tree
returns-clause-tree c = λ a l.
    term_filled c.args.bank.now c.put_proposition.new.bank c.change.new.bank (record { types = c.args.types; other = c.in_ok-other.other })
    c.args.term.0 c.in_ok-made.made.0 c.in_ok-other.ensures.kept c.in_ok-made.ensures.kept a c.in_ok-other.ensures.within
    c.in_ok-other.ensures.tree l c.in_ok-made.ensures.within
    (λ m k. c.in_ok-made.ensures.made m k (c.new-changed.ensures m _ _))
