use Rattle.lp_term.proofs.Within.{is_last}
use Rattle.lp_term.proofs.put.types_inside.Goals as goal

pub returns-clause-made : goal.returns-clause-made
returns-clause-made c =
    c.in_ok-made.ensures c.args.bank.now c.put_type.new.self c.in_ok-other.ensures.kept c.type_count-count.ensures.count
    (is_last c.args.bank.now.types c.put_type.new.self.types _ c.in_ok-other.other.0 c.in_ok-other.ensures.number c.in_ok-other.ensures.types) c.in_ok-other.ensures.tree
