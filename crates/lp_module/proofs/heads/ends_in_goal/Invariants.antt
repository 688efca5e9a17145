use Rattle.std.proofs.Common.{◌≡◌}
use Rattle.lp_term.specs.Nodes.{type_tree}
use Rattle.lp_model.specs.Flatten.{ends_in_o}
use Rattle.lp_module.proofs.heads.ends_in_goal.Given as goal

abbrev pub decreases-results : goal.decreases-results
decreases-results l = l.at.0

abbrev pub invariant-results : goal.invariant-results
invariant-results l = ends_in_o (type_tree l.bank l.at.0) ≡ ends_in_o (type_tree l.bank l.fn.id.0)
