use Rattle.std.proofs.Common.{◌∙◌, subst, map, Some, sym, ap}
use Rattle.std.specs.Prelude.{nat_eq}
use Rattle.std.proofs.lemmas.Result.{on_ok_weaker}
use Rattle.indexmap.specs.IndexMap.{get}
use Rattle.lp_term.specs.Shapes.{type_shape}
use Rattle.lp_sig.specs.Copying.{filled}
use Rattle.lp_sig.proofs.Copies.{one_more_copy}
use Rattle.lp_sig.proofs.Instances.{con_copied, arrow_copied}
use Rattle.lp_sig.specs.inner.Tasks.{HasCopy, AreParts}
use Rattle.lp_sig.proofs.Tasks.{copy_kept}
use Rattle.lp_sig.proofs.store.Types.build.Goals as goal

pub returns-in-Var-clause-copies : goal.returns-in-Var-clause-copies
returns-in-Var-clause-copies c = λ b args x h kept. kept

pub returns-in-Param-clause-copies : goal.returns-in-Param-clause-copies
returns-in-Param-clause-copies c = λ b args x h kept. kept

pub returns-in_ok-copy-in-Con-clause-copies : goal.returns-in_ok-copy-in-Con-clause-copies
returns-in_ok-copy-in-Con-clause-copies c =
    on_ok_weaker c.keep.result (λ put b args x h kept.
    let now = c.args.self.now.bank in
    let e = con_copied b now c.args.id.0 (type_shape c.type_node.result) x h c.type_node.ensures.older c.type_node.ensures.tree (filled b args)
    (get nat_eq c.args.made.now) kept c.in-Con.kind c.in-Con.parts.now c.as_slice.result.now (ap type_shape c.in-Con.is)
    (c.in_ok-copies-in-Con.ensures ∙ ap (λ cs. map (λ c. Some c.0) cs) (sym c.as_slice.ensures.value)) in
    one_more_copy b now c.con.new.self.bank args (get nat_eq c.args.made.now) (get nat_eq c.keep.new.made) c.args.id.0 c.in_ok-copy-in-Con.copy.0 put c.con.ensures.kept kept c.in_ok-copy-in-Con.ensures.tree.0 (c.in_ok-copy-in-Con.ensures.tree.1 ∙ e)) c.keep.ensures

pub returns-in_ok-copy-in-Arrow-clause-copies : goal.returns-in_ok-copy-in-Arrow-clause-copies
returns-in_ok-copy-in-Arrow-clause-copies c =
    on_ok_weaker c.keep-in-Arrow.result (λ put b args x h kept.
    let now = c.args.self.now.bank in
    let e = arrow_copied b now c.args.id.0 (type_shape c.type_node.result) x h c.type_node.ensures.older c.type_node.ensures.tree (filled b args)
    (get nat_eq c.args.made.now) kept c.in-Arrow.from c.in-Arrow.to c.copy_of-left.result c.copy_of-right.result
    (ap type_shape c.in-Arrow.is) c.copy_of-left.ensures c.copy_of-right.ensures in
    one_more_copy b now c.arrow.new.self.bank args (get nat_eq c.args.made.now) (get nat_eq c.keep-in-Arrow.new.made) c.args.id.0 c.in_ok-copy-in-Arrow.copy.0 put c.arrow.ensures.kept kept c.in_ok-copy-in-Arrow.ensures.tree.0 (c.in_ok-copy-in-Arrow.ensures.tree.1 ∙ e)) c.keep-in-Arrow.ensures

pub copies_of-requires : goal.copies_of-requires
copies_of-requires c = subst (AreParts (HasCopy c.args.made.now)) (sym c.type_node.ensures.node ∙ ap type_shape c.in-Con.is) c.requires

pub copy_of-left-requires : goal.copy_of-left-requires
copy_of-left-requires c = (subst (AreParts (HasCopy c.args.made.now)) (sym c.type_node.ensures.node ∙ ap type_shape c.in-Arrow.is) c.requires).0

pub copy_of-right-requires : goal.copy_of-right-requires
copy_of-right-requires c = (subst (AreParts (HasCopy c.args.made.now)) (sym c.type_node.ensures.node ∙ ap type_shape c.in-Arrow.is) c.requires).1

pub returns-in-Var-clause-goes : goal.returns-in-Var-clause-goes
returns-in-Var-clause-goes c = absurd (subst (AreParts (HasCopy c.args.made.now)) (sym c.type_node.ensures.node ∙ ap type_shape c.in-Var.is) c.requires)

pub returns-in-Param-clause-goes : goal.returns-in-Param-clause-goes
returns-in-Param-clause-goes c = absurd (subst (AreParts (HasCopy c.args.made.now)) (sym c.type_node.ensures.node ∙ ap type_shape c.in-Param.is) c.requires)

pub returns-in_ok-copy-in-Con-clause-goes : goal.returns-in_ok-copy-in-Con-clause-goes
returns-in_ok-copy-in-Con-clause-goes c = on_ok_weaker c.keep.result (λ put. copy_kept (get nat_eq c.args.made.now) (get nat_eq c.keep.new.made) c.args.id.0 c.in_ok-copy-in-Con.copy.0 put) c.keep.ensures

pub returns-in_ok-copy-in-Arrow-clause-goes : goal.returns-in_ok-copy-in-Arrow-clause-goes
returns-in_ok-copy-in-Arrow-clause-goes c = on_ok_weaker c.keep-in-Arrow.result (λ put. copy_kept (get nat_eq c.args.made.now) (get nat_eq c.keep-in-Arrow.new.made) c.args.id.0 c.in_ok-copy-in-Arrow.copy.0 put) c.keep-in-Arrow.ensures
