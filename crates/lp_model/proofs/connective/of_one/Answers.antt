use Rattle.std.proofs.Common.{◌≡◌, ◌∙◌, sym, ap, subst, [], ◌∷◌, length}
use Rattle.lp_term.specs.Nodes.{tree}
use Rattle.lp_model.specs.Connected.{connective_in, IsConnectiveIn}
use Rattle.lp_model.proofs.Connectives.{first_within, no_constant, told_other, told_negated, told_quantified, told_many, quantified_within}
use Rattle.lp_model.proofs.connective.of_one.Goals as goal

pub returns-in_default : goal.returns-in_default
returns-in_default c =
    let b = c.args.bank.now in
    record {
      within = tt;
      tree = no_constant b (length b.types) c.args.head.0 c.term_node.result (tree b c.args.head.0) (tree b c.args.on.0 ∷ []) c.term_node.ensures.older c.term_node.ensures.tree c.in_default.not-Const;
    }

pub returns-in_default-from_number-clause-tree : goal.returns-in_default-from_number-clause-tree
returns-in_default-from_number-clause-tree c =
    let b = c.args.bank.now in
    told_other (tree b c.args.head.0) c.in-Const.number _ (tree b c.args.on.0 ∷ []) c.in-Const.ensures.tree (sym c.from_number.ensures ∙ c.in_default-from_number.is)

pub returns-in-empty-clause-tree : goal.returns-in-empty-clause-tree
returns-in-empty-clause-tree c =
    let b = c.args.bank.now in
    told_negated b (tree b c.args.head.0) c.in-Const.number c.in-Const.types.now c.in-Some.constant c.args.on c.in-Const.ensures.tree (sym c.from_number.ensures ∙ c.in-Some.is) c.in-empty.len_below ∙ ap (connective_in b) (sym c.negated.ensures)

pub returns-in-len1-clause-within : goal.returns-in-len1-clause-within
returns-in-len1-clause-within c =
    let b = c.args.bank.now in
    subst (IsConnectiveIn b) (sym c.quantified.ensures) (quantified_within b c.in-Some.constant _ c.args.on (first_within (length b.types) c.in-Const.types.now c.in-Const.ensures.within c.in-len1.len_at_least) c.requires.on)

pub returns-in-len1-clause-tree : goal.returns-in-len1-clause-tree
returns-in-len1-clause-tree c =
    let b = c.args.bank.now in
    told_quantified b (tree b c.args.head.0) c.in-Const.number c.in-Const.types.now c.in-Some.constant c.args.on c.in-Const.ensures.tree (sym c.from_number.ensures ∙ c.in-Some.is) c.in-len1.len_at_least c.in-len1.len_below ∙
    ap (connective_in b) (sym c.quantified.ensures)

pub returns-in_default-types-clause-tree : goal.returns-in_default-types-clause-tree
returns-in_default-types-clause-tree c =
    let b = c.args.bank.now in
    told_many b (tree b c.args.head.0) c.in-Const.number c.in-Const.types.now (tree b c.args.on.0) c.in-Const.ensures.tree c.in_default-types.len_at_least
