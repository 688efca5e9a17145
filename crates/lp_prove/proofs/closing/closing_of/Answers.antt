use Rattle.lp_term.proofs.Trees.{extends-trans}
use Rattle.lp_prove.proofs.closing.closing_of.Goals as goal

pub returns-in_err-insert : goal.returns-in_err-insert
returns-in_err-insert c =
    extends-trans c.args.to.now c.terms.to c.put_parameter.new.bank c.terms.invariant (extends-trans c.terms.to c.copy_type.new.to c.put_parameter.new.bank c.in_ok-sort.ensures.kept c.in_ok-made.ensures.kept)
