use Rattle.std.proofs.Common.{◌∙◌, sym, ap, refl}
use Rattle.lp_standard.specs.Connectives.{body_of}
use Rattle.lp_term.specs.Nodes.{tree}
use Rattle.lp_module.proofs.Parting.{body_applied}
use Rattle.lp_module.proofs.quantified.body_of.Goals as goal

pub returns-in-Some-clause-tree : goal.returns-in-Some-clause-tree
returns-in-Some-clause-tree c = sym (ap body_of c.in-Some.ensures.tree)

pub returns-clause-tree : goal.returns-clause-tree
returns-clause-tree c = c.in_ok-made.ensures.tree ∙ sym (body_applied (tree c.args.bank.now c.args.term.0) (c.in_default.ensures.none refl))
