use Rattle.std.proofs.Common.{◌<◌, ◌∙◌, length, map, sym, ap, subst}
use Rattle.std.specs.Prelude.{All}
use Rattle.std.proofs.lemmas.List.Elements.{All-nil}
use Rattle.lp_lemmas.proofs.Elements.{All_unmap}
use Rattle.lp_term.specs.Nodes.{tree, type_tree}
use Rattle.lp_term.specs.declared.node.TypeId.{TypeId}
use Rattle.lp_pattern.proofs.Names.{kind, kind_of, no_constant}
use Rattle.lp_plain.proofs.HeadPairs.{constant_types, no_types_of}
use Rattle.lp_plain.proofs.attempt.type_args.Goals as goal

pub returns-in_default : goal.returns-in_default
returns-in_default c = record {
  within = subst (All (λ (t : TypeId). t.0 < length c.args.bank.now.types)) (sym c.new.ensures.items) (All-nil (λ (t : TypeId). t.0 < length c.args.bank.now.types));
  types = ap (map (λ (t : TypeId). type_tree c.args.bank.now t.0)) c.new.ensures.items ∙
      no_types_of (tree c.args.bank.now c.args.term.0)
      (λ e. no_constant c.term_node.result c.in_default.not-Const (sym (kind_of c.args.bank.now _ _ c.term_node.result c.term_node.ensures.older) ∙ ap kind c.term_node.ensures.tree ∙ e));
}

pub returns-clause-within : goal.returns-clause-within
returns-clause-within c =
    let n = length c.args.bank.now.types in
    subst (All (λ (t : TypeId). t.0 < n)) (sym c.in_ok-types.ensures.items) (All_unmap (λ i. i < n) (λ (t : TypeId). t.0) c.in-Const.args.now c.in-Const.ensures.within)

pub returns-clause-types : goal.returns-clause-types
returns-clause-types c =
    ap (map (λ (t : TypeId). type_tree c.args.bank.now t.0)) c.in_ok-types.ensures.items ∙
    constant_types c.args.bank.now c.in-Const.field-0 c.in-Const.args.now (tree c.args.bank.now c.args.term.0) c.in-Const.ensures.tree
