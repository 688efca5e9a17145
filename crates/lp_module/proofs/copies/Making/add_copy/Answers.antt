use Rattle.lp_module.proofs.Adding.{adds_then}
use Rattle.lp_module.proofs.Tabled.{adds_copy}
use Rattle.lp_module.proofs.copies.Making.add_copy.Goals as goal

pub returns-clause-clauses : goal.returns-clause-clauses
returns-clause-clauses c =
    adds_then c.args.self.now c.add_hidden_kinds.new.self c.add_clauses.new.self c.args.copy.now c.in_ok-add_hidden_kinds.ensures.made
    (adds_then c.add_hidden_kinds.new.self c.add_hidden_constants.new.self c.add_clauses.new.self c.args.copy.now c.in_ok-add_hidden_constants.ensures.made c.in_ok-add_clauses.ensures.clauses)

pub returns-clause-names : goal.returns-clause-names
returns-clause-names c =
    adds_copy c.args.self.now c.add_hidden_kinds.new.self c.add_hidden_constants.new.self c.add_clauses.new.self c.args.copy.now c.in_ok-add_hidden_kinds.ensures.made.0 c.in_ok-add_hidden_constants.ensures.made.0
    c.in_ok-add_hidden_kinds.ensures.names c.in_ok-add_hidden_constants.ensures.names c.in_ok-add_clauses.ensures.names
