use Rattle.std.proofs.Common.{Some, map, ap, sym, ◌∙◌}
use Rattle.std.specs.Prelude.{nat_eq}
use Rattle.std.proofs.lemmas.Result.{IfOk-weaker}
use Rattle.indexmap.specs.IndexMap.{get}
use Rattle.lp_term.specs.Shapes.{type_shape}
use Rattle.lp_sig.proofs.SeenTypes.{var_type, param_type, con_type, arrow_type}
use Rattle.lp_sig.proofs.TypesHere.{var_here, param_here, con_here, arrow_here}
use Rattle.lp_sig.proofs.store.Types.see_type.Goals as goal

pub returns-in-Var-clause-seen : goal.returns-in-Var-clause-seen
returns-in-Var-clause-seen c = IfOk-weaker c.var.result _ _
    (λ t h. var_type c.args.bank.now c.args.self.now.bank c.var.new.self.bank (get nat_eq c.args.kinds.now) c.args.made.now c.args.id.0
    (type_shape c.type_node.result) c.type_node.ensures.tree c.in-Var.number (ap type_shape c.in-Var.is) t h)
    c.var.ensures.tree

pub returns-in-Param-clause-seen : goal.returns-in-Param-clause-seen
returns-in-Param-clause-seen c = IfOk-weaker c.param.result _ _
    (λ t h. param_type c.args.bank.now c.args.self.now.bank c.param.new.self.bank (get nat_eq c.args.kinds.now) c.args.made.now c.args.id.0
    (type_shape c.type_node.result) c.type_node.ensures.tree c.in-Param.number (ap type_shape c.in-Param.is) t h)
    c.param.ensures.tree

pub returns-in_ok-parts-in-Con-clause-seen : goal.returns-in_ok-parts-in-Con-clause-seen
returns-in_ok-parts-in-Con-clause-seen c = IfOk-weaker c.con.result _ _
    (λ t h. con_type c.args.bank.now c.args.self.now.bank c.con.new.self.bank (get nat_eq c.args.kinds.now) c.args.made.now c.args.id.0
    (type_shape c.type_node.result) c.type_node.ensures.tree c.in-Con.kind c.in_ok-number-in-Con.number
    c.in-Con.ids.now c.as_slice.result.now (ap type_shape c.in-Con.is) (c.in_ok-parts-in-Con.ensures ∙ ap (map (λ t. Some t)) (sym c.as_slice.ensures.value)) c.in_ok-number-in-Con.ensures t h)
    c.con.ensures.tree

pub returns-in_ok-right-in-Arrow-clause-seen : goal.returns-in_ok-right-in-Arrow-clause-seen
returns-in_ok-right-in-Arrow-clause-seen c = IfOk-weaker c.arrow.result _ _
    (λ t h. arrow_type c.args.bank.now c.args.self.now.bank c.arrow.new.self.bank (get nat_eq c.args.kinds.now) c.args.made.now c.args.id.0
    (type_shape c.type_node.result) c.type_node.ensures.tree c.in-Arrow.from c.in-Arrow.to
    c.in_ok-left-in-Arrow.left c.in_ok-right-in-Arrow.right (ap type_shape c.in-Arrow.is) c.in_ok-left-in-Arrow.ensures c.in_ok-right-in-Arrow.ensures t h)
    c.arrow.ensures.tree

pub returns-in-Var-clause-told : goal.returns-in-Var-clause-told
returns-in-Var-clause-told c = IfOk-weaker c.var.result _ _
    (λ t h said names all seen. var_here c.args.bank.now c.args.self.now.bank names said c.args.made.now seen c.var.new.self.bank c.args.id.0
    (type_shape c.type_node.result) c.type_node.ensures.tree t c.in-Var.number (ap type_shape c.in-Var.is) h)
    c.var.ensures.tree

pub returns-in-Param-clause-told : goal.returns-in-Param-clause-told
returns-in-Param-clause-told c = IfOk-weaker c.param.result _ _
    (λ t h said names all seen. param_here c.args.bank.now c.args.self.now.bank names said c.args.made.now seen c.param.new.self.bank c.args.id.0
    (type_shape c.type_node.result) c.type_node.ensures.tree t c.in-Param.number (ap type_shape c.in-Param.is) h)
    c.param.ensures.tree

pub returns-in_ok-parts-in-Con-clause-told : goal.returns-in_ok-parts-in-Con-clause-told
returns-in_ok-parts-in-Con-clause-told c = IfOk-weaker c.con.result _ _
    (λ t h said names all seen. con_here c.args.bank.now c.args.self.now.bank names said c.args.made.now seen c.con.new.self.bank c.args.id.0
    (type_shape c.type_node.result) c.type_node.ensures.tree t (get nat_eq c.args.kinds.now) all c.in-Con.kind c.in_ok-number-in-Con.number
    c.in-Con.ids.now c.as_slice.result.now (ap type_shape c.in-Con.is) (c.in_ok-parts-in-Con.ensures ∙ ap (map (λ t. Some t)) (sym c.as_slice.ensures.value)) c.in_ok-number-in-Con.ensures h)
    c.con.ensures.tree

pub returns-in_ok-right-in-Arrow-clause-told : goal.returns-in_ok-right-in-Arrow-clause-told
returns-in_ok-right-in-Arrow-clause-told c = IfOk-weaker c.arrow.result _ _
    (λ t h said names all seen. arrow_here c.args.bank.now c.args.self.now.bank names said c.args.made.now seen c.arrow.new.self.bank c.args.id.0
    (type_shape c.type_node.result) c.type_node.ensures.tree t c.in-Arrow.from c.in-Arrow.to
    c.in_ok-left-in-Arrow.left c.in_ok-right-in-Arrow.right (ap type_shape c.in-Arrow.is) c.in_ok-left-in-Arrow.ensures c.in_ok-right-in-Arrow.ensures h)
    c.arrow.ensures.tree
