use Rattle.lp_term.proofs.Trees.{extends-trans}
use Rattle.lp_pattern.proofs.inside.inside.Goals as goal

pub returns-clause-pairs : goal.returns-clause-pairs
returns-clause-pairs c =
    c.in_ok-all_pairs.ensures c.args.bank.now c.put_index.new.bank (extends-trans c.args.bank.now c.put_type_variable.new.bank c.put_index.new.bank c.in_ok-other_type.ensures.kept c.in_ok-other.ensures.kept)
    c.term_count-count.ensures.count c.in_ok-other.ensures.within c.in_ok-other.ensures.tree

pub returns-clause-delayed : goal.returns-clause-delayed
returns-clause-delayed c =
    c.in_ok-waiting.ensures c.args.bank.now c.put_index.new.bank (extends-trans c.args.bank.now c.put_type_variable.new.bank c.put_index.new.bank c.in_ok-other_type.ensures.kept c.in_ok-other.ensures.kept)
    c.term_count-count.ensures.count c.in_ok-other.ensures.within c.in_ok-other.ensures.tree
