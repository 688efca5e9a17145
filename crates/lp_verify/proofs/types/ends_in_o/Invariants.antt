use Rattle.std.proofs.Common.{◌≡◌}
use Rattle.lp_model.specs.Flatten.{ends_in_o}
use Rattle.lp_term.specs.Nodes.{type_tree}
use Rattle.lp_verify.proofs.TypeEnds.{IsOnWay}
use Rattle.lp_verify.proofs.types.ends_in_o.Given as goal

abbrev pub invariant-loop : goal.invariant-loop
invariant-loop l = (ends_in_o (type_tree l.fn.bank l.last.0) ≡ ends_in_o (type_tree l.fn.bank l.fn.id.0)) × IsOnWay l.fn.bank l.last.0 l.counter
