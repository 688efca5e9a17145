use Rattle.std.proofs.Common.{◌∙◌, map, reverse, ap, sym}
use Rattle.std.proofs.lemmas.Result.{on_ok_weaker}
use Rattle.lp_term.proofs.Trees.{extends_same}
use Rattle.lp_term.specs.Shapes.{type_shape}
use Rattle.lp_sig.proofs.Copies.{same_met, con_met, arrow_met, con_inside, arrow_inside}
use Rattle.lp_sig.proofs.Meetings.{var_opened, param_opened, con_opened, arrow_opened}
use Rattle.lp_sig.proofs.store.Types.meet.Goals as goal

pub returns-in-Con-clause-falls : goal.returns-in-Con-clause-falls
returns-in-Con-clause-falls c =
    let b = c.args.self.now.bank in
    let h = con_inside b c.args.id.0 c.in-Con.field-0 (map (λ t. t.0) c.in-Con.parts.now) (sym (ap type_shape c.in-Con.is) ∙ c.type_node.ensures.node) in
    on_ok_weaker c.push_reversed.result (con_met b b c.args.id.0 (type_shape c.type_node.result) (extends_same b) h c.type_node.ensures.older
    c.type_node.ensures.tree c.args.work.now.items c.push_reversed.new.work.items c.in-Con.field-0 c.in-Con.parts.now (ap type_shape c.in-Con.is))
    c.push_reversed.ensures

pub returns-in_ok-push-in-Arrow-2-clause-falls : goal.returns-in_ok-push-in-Arrow-2-clause-falls
returns-in_ok-push-in-Arrow-2-clause-falls c =
    let b = c.args.self.now.bank in
    let h = arrow_inside b c.args.id.0 c.in-Arrow.from.0 c.in-Arrow.to.0 (sym (ap type_shape c.in-Arrow.is) ∙ c.type_node.ensures.node) in
    arrow_met b b c.args.id.0 (type_shape c.type_node.result) (extends_same b) h c.type_node.ensures.older c.type_node.ensures.tree
    c.args.work.now.items c.push.new.self.items c.push-in-Arrow.new.self.items c.in-Arrow.from c.in-Arrow.to (ap type_shape c.in-Arrow.is)
    c.in_ok-push-in-Arrow.ensures.items c.in_ok-push-in-Arrow-2.ensures.items

pub returns-in_ok-insert-in-Var-clause-falls : goal.returns-in_ok-insert-in-Var-clause-falls
returns-in_ok-insert-in-Var-clause-falls c = same_met c.args.self.now.bank c.args.id c.args.work.now.items

pub returns-in-Param-clause-falls : goal.returns-in-Param-clause-falls
returns-in-Param-clause-falls c = same_met c.args.self.now.bank c.args.id c.args.work.now.items

pub returns-in-Con-clause-opened : goal.returns-in-Con-clause-opened
returns-in-Con-clause-opened c =
    on_ok_weaker c.push_reversed.result (con_opened c.args.self.now.bank c.args.id.0 (type_shape c.type_node.result) c.type_node.ensures.older
    c.type_node.ensures.tree c.in-Con.field-0 c.in-Con.parts.now c.args.found.now.keys c.args.work.now.items c.push_reversed.new.work.items
    (ap type_shape c.in-Con.is)) c.push_reversed.ensures

pub returns-in_ok-push-in-Arrow-2-clause-opened : goal.returns-in_ok-push-in-Arrow-2-clause-opened
returns-in_ok-push-in-Arrow-2-clause-opened c =
    arrow_opened c.args.self.now.bank c.args.id.0 (type_shape c.type_node.result) c.type_node.ensures.older c.type_node.ensures.tree c.in-Arrow.from
    c.in-Arrow.to c.args.found.now.keys c.args.work.now.items c.push.new.self.items c.push-in-Arrow.new.self.items (ap type_shape c.in-Arrow.is)
    c.in_ok-push-in-Arrow.ensures.items c.in_ok-push-in-Arrow-2.ensures.items

pub returns-in_ok-insert-in-Var-clause-opened : goal.returns-in_ok-insert-in-Var-clause-opened
returns-in_ok-insert-in-Var-clause-opened c =
    var_opened c.args.self.now.bank c.args.id.0 (type_shape c.type_node.result) c.type_node.ensures.older c.type_node.ensures.tree c.in-Var.number c.args.found.now.keys c.insert.new.self.keys (reverse c.args.work.now.items) (ap type_shape c.in-Var.is) c.in_ok-insert-in-Var.ensures.keys

pub returns-in-Param-clause-opened : goal.returns-in-Param-clause-opened
returns-in-Param-clause-opened c = param_opened c.args.self.now.bank c.args.id.0 (type_shape c.type_node.result) c.type_node.ensures.older c.type_node.ensures.tree c.in-Param.field-0 c.args.found.now.keys (reverse c.args.work.now.items) (ap type_shape c.in-Param.is)
