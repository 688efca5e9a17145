use Rattle.lp_term.specs.Nodes.{tree}
use Rattle.lp_pattern.proofs.Names.{apart_from_applied}
use Rattle.lp_pattern.proofs.heads.have_same_name.Goals as goal

pub returns-in-App : goal.returns-in-App
returns-in-App c =
    apart_from_applied c.args.bank.now 0 c.args.one.0 (tree c.args.bank.now c.args.one.0) (tree c.args.bank.now c.args.other.0) c.in-App.field-0 c.in-App.field-1 c.in-App.ensures.older c.in-App.ensures.tree
