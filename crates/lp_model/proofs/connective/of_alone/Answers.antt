use Rattle.std.proofs.Common.{◌≡◌, ◌∙◌, sym, ap, [], length}
use Rattle.lp_term.specs.Nodes.{tree}
use Rattle.lp_model.specs.Connected.{connective_in}
use Rattle.lp_model.proofs.Connectives.{no_constant, told_alone}
use Rattle.lp_model.proofs.connective.of_alone.Goals as goal

pub returns-in_default : goal.returns-in_default
returns-in_default c =
    let b = c.args.bank.now in
    record {
      within = tt;
      tree = no_constant b (length b.types) c.args.head.0 c.term_node.result (tree b c.args.head.0) [] c.term_node.ensures.older c.term_node.ensures.tree c.in_default.not-Const;
    }

pub returns-in-Some-clause-tree : goal.returns-in-Some-clause-tree
returns-in-Some-clause-tree c =
    let b = c.args.bank.now in
    told_alone b (tree b c.args.head.0) c.in-Const.number _ c.in-Some.constant c.in-Const.ensures.tree (sym c.from_number.ensures ∙ c.in-Some.is) ∙ ap (connective_in b) (sym c.alone.ensures)
