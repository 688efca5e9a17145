use Rattle.std.proofs.Common.{◌≡◌, map, take}
use Rattle.lp_term.specs.Nodes.{type_tree}
use Rattle.lp_model.specs.Flatten.{ends_in_o}
use Rattle.lp_module.proofs.heads.Heads.of.Given as goal

abbrev pub invariant-loop-at : goal.invariant-loop-at
invariant-loop-at l = l.ends.items ≡ map (λ e. ends_in_o (type_tree l.signature.bank e.scheme.0)) (take l.at l.signature.constants.items)
