use Rattle.lp_cert.proofs.Shaped.{arrow_later}
use Rattle.lp_cert.proofs.schemes.put_function.Goals as goal

pub returns-clause-later : goal.returns-clause-later
returns-clause-later c =
    arrow_later c.args.bank.now c.put_part.new.bank c.put_arrow.new.bank c.args.types.now c.args.from c.in_ok-from.from c.args.to c.put_arrow.result
    c.in_ok-from.ensures.kept c.put_arrow.ensures.kept c.in_ok-from.ensures.within c.in_ok-from.ensures.later c.put_arrow.ensures.within
    c.put_arrow.ensures.tree
