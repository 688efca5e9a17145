use Rattle.lp_plain.proofs.OpenNodes.{con_parts}
use Rattle.lp_plain.proofs.variables.open_type.Goals as goal

pub returns-in_ok-extend_from_slice-in-Con-clause-parts : goal.returns-in_ok-extend_from_slice-in-Con-clause-parts
returns-in_ok-extend_from_slice-in-Con-clause-parts c = λ z. (c.in-Con.parts.now, c.in_ok-extend_from_slice-in-Con.ensures.items, con_parts c.args.bank.now c.args.of.0 _ _ c.in-Con.ensures.tree)
