use Rattle.std.proofs.Common.{◌≡◌, ◌∙◌, sym, ap, [], ◌∷◌, length}
use Rattle.std.proofs.lemmas.Bool.{eqb-true}
use Rattle.lp_term.specs.Nodes.{tree}
use Rattle.lp_model.specs.Connected.{connective_in}
use Rattle.lp_model.proofs.Connectives.{no_constant, told_joined}
use Rattle.lp_model.proofs.connective.of_two.Goals as goal

pub returns-in_default : goal.returns-in_default
returns-in_default c =
    let b = c.args.bank.now in
    record {
      within = tt;
      tree = no_constant b (length b.types) c.args.head.0 c.term_node.result (tree b c.args.head.0) (tree b c.args.left.0 ∷ tree b c.args.right.0 ∷ []) c.term_node.ensures.older c.term_node.ensures.tree c.in_default.not-Const;
    }

pub returns-in-Some-clause-tree : goal.returns-in-Some-clause-tree
returns-in-Some-clause-tree c =
    let b = c.args.bank.now in
    told_joined b (tree b c.args.head.0) c.in-Const.number c.in-Const.types.now c.in-Some.constant c.args.left c.args.right c.in-Const.ensures.tree
    (sym c.from_number.ensures ∙ c.in-Some.is) (eqb-true (length c.in-Const.types.now) 0 (sym c.if-not-is_empty.ensures)) ∙ ap (connective_in b)
    (sym c.joined.ensures)
