use Rattle.std.proofs.Common.{◌∙◌, sym}
use Rattle.std.proofs.lemmas.Result.{IfOk-weaker}
use Rattle.lp_calculus.specs.Term.{atom, logic}
use Rattle.lp_term.specs.Nodes.{type_tree}
use Rattle.lp_term.proofs.MapLaws.{putting, type_put}
use Rattle.lp_plain.specs.Renewal.{renewing}
use Rattle.lp_plain.proofs.RenewedTypes.{renewing_is_map, renewing_none, instance_same}
use Rattle.lp_plain.proofs.types.renewed.Goals as goal

pub returns-then-by-eq0-clause-tree : goal.returns-then-by-eq0-clause-tree
returns-then-by-eq0-clause-tree c =
    IfOk-weaker c.inside_type.result _ _ (λ id e. e ∙ sym (instance_same (renewing c.args.by) (renewing_none c.args.by c.if-by-eq0.true) (type_tree c.args.bank.now c.args.id.0))) c.inside_type.ensures.tree

pub returns-clause-tree : goal.returns-clause-tree
returns-clause-tree c =
    let b = c.args.bank.now in
    let r = c.args.by in
    let m = putting (renewing r) (λ x l. atom (logic x l)) in
    IfOk-weaker c.change_type.result _ _ (λ id h. h m (renewing_is_map r b b) (c.new-changed.ensures m b b) ∙ type_put (renewing r) (λ x l. atom (logic x l)) (type_tree b c.args.id.0)) c.change_type.ensures.made
