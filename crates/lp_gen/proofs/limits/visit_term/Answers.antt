use Rattle.std.proofs.Common.{◌∙◌, ◌+◌, map, ap, subst}
use Rattle.lp_calculus.specs.Term.{text, constant}
use Rattle.lp_term.specs.Nodes.{type_tree}
use Rattle.lp_lemmas.proofs.Results.{passed_up}
use Rattle.lp_gen.specs.inner.Limiting.{nodes_of, IsOver, TermsOver}
use Rattle.lp_gen.proofs.LimitsLeft.{Over, mapped_twice, application_met, application_less, head_over, part_over, abstraction_met, abstraction_over, body_over, leaf_met, leaf_over, atom_over}
use Rattle.lp_gen.proofs.limits.visit_term.Goals as goal

pub returns-in_ok-take-in-Text-2-clause-met : goal.returns-in_ok-take-in-Text-2-clause-met
returns-in_ok-take-in-Text-2-clause-met c =
    leaf_met c.args.bank.now c.args.tally.now.look c.args.number c.args.term c.args.tally.now.room c.take.new.self.room c.take-in-Text.new.self.room c.of_string-strings.result c.args.work.now.items (text c.in-Text.bytes.now) c.in-Text.ensures.tree
    (c.in_ok-take-in-Text.ensures.room ∙ ap (λ q. c.take.new.self.room + q) c.of_node-nodes.ensures) c.in_ok-take-in-Text-2.ensures.room
    (c.of_string-strings.ensures ∙ ap (λ k. (nodes_of k).of_atom (text c.in-Text.bytes.now)) c.take.ensures.look)

pub returns-in_ok-take-in-Const-2-clause-met : goal.returns-in_ok-take-in-Const-2-clause-met
returns-in_ok-take-in-Const-2-clause-met c =
    let ts = map (type_tree c.args.bank.now) (map (λ t. t.0) c.in-Const.types.now) in
    leaf_met c.args.bank.now c.args.tally.now.look c.args.number c.args.term c.args.tally.now.room c.take-in-Const.new.self.room c.take-in-Const-2.new.self.room c.of_types-wide.result c.args.work.now.items (constant c.in-Const.field-0 ts) c.in-Const.ensures.tree
    (c.in_ok-take-in-Const.ensures.room ∙ ap (λ q. c.take-in-Const.new.self.room + q) c.of_node-nodes-in-Const.ensures) c.in_ok-take-in-Const-2.ensures.room
    (c.of_types-wide.ensures c.in-Const.field-0 ts (mapped_twice c.args.bank.now c.in-Const.types.now) ∙ ap (λ k. (nodes_of k).of_atom (constant c.in-Const.field-0 ts)) c.take-in-Const.ensures.look)

pub returns-in_ok-push-in-Abs-clause-met : goal.returns-in_ok-push-in-Abs-clause-met
returns-in_ok-push-in-Abs-clause-met c =
    abstraction_met c.args.bank.now c.args.tally.now.look c.args.number c.args.term c.args.tally.now.room c.take-in-Abs.new.self.room c.in_ok-below-in-Abs.below c.args.work.now.items c.push.new.self.items c.in-Abs.body
    (c.in_ok-take-in-Abs.ensures.room ∙ ap (λ q. c.take-in-Abs.new.self.room + q) c.of_node-nodes-in-Abs.ensures)
    (c.in_ok-below-in-Abs.ensures.number ∙ ap (λ k. (nodes_of k).to_part c.args.number) c.take-in-Abs.ensures.look) c.in_ok-push-in-Abs.ensures.items c.in-Abs.ensures.tree

pub returns-in_ok-push-in-App-2-clause-met : goal.returns-in_ok-push-in-App-2-clause-met
returns-in_ok-push-in-App-2-clause-met c =
    application_met c.args.bank.now c.args.tally.now.look c.args.number c.args.term c.args.tally.now.room c.in_ok-below-in-App.below c.in_ok-front-in-App.front c.args.work.now.items c.push-in-App.new.self.items c.push-in-App-2.new.self.items c.in-App.head c.in-App.args
    c.in_ok-below-in-App.ensures.number c.in_ok-front-in-App.ensures.number c.in_ok-push-in-App.ensures.items c.in_ok-push-in-App-2.ensures.items c.in-App.ensures.tree

pub returns-in_ok-push-in-App-2-clause-less : goal.returns-in_ok-push-in-App-2-clause-less
returns-in_ok-push-in-App-2-clause-less c =
    application_less c.args.bank.now c.args.tally.now.look c.args.number c.args.term c.in_ok-below-in-App.below c.in_ok-front-in-App.front c.args.work.now.items c.push-in-App.new.self.items c.push-in-App-2.new.self.items c.in-App.head c.in-App.args
    c.in_ok-push-in-App.ensures.items c.in_ok-push-in-App-2.ensures.items c.in-App.ensures.tree c.in-App.ensures.older.2

pub returns-in_err-take-in-Text-clause-cause : goal.returns-in_err-take-in-Text-clause-cause
returns-in_err-take-in-Text-clause-cause c =
    let e = c.in_err-take-in-Text.field-0.0 in
    passed_up c.from_residual.result e (Over c.args.bank.now c.args.tally.now.look c.args.tally.now.room c.args.number c.args.term) c.from_residual.ensures.1
    (leaf_over c.args.bank.now c.args.tally.now.look c.args.number c.args.term c.args.tally.now.room (text c.in-Text.bytes.now) e c.in-Text.ensures.tree (subst (λ q. IsOver c.args.tally.now.look c.args.tally.now.room q e) c.of_node-nodes.ensures c.in_err-take-in-Text.ensures.cause))

pub returns-in_err-take-in-Text-2-clause-cause : goal.returns-in_err-take-in-Text-2-clause-cause
returns-in_err-take-in-Text-2-clause-cause c =
    let e = c.in_err-take-in-Text-2.field-0.0 in
    passed_up c.from_residual-in_err-take-in-Text-2.result e (Over c.args.bank.now c.args.tally.now.look c.args.tally.now.room c.args.number c.args.term) c.from_residual-in_err-take-in-Text-2.ensures.1
    (atom_over c.args.bank.now c.args.tally.now.look c.args.number c.args.term c.args.tally.now.room c.take.new.self.room c.of_string-strings.result (text c.in-Text.bytes.now) e c.in-Text.ensures.tree
    (c.in_ok-take-in-Text.ensures.room ∙ ap (λ q. c.take.new.self.room + q) c.of_node-nodes.ensures)
    (c.of_string-strings.ensures ∙ ap (λ k. (nodes_of k).of_atom (text c.in-Text.bytes.now)) c.take.ensures.look)
    (subst (λ k. IsOver k c.take.new.self.room c.of_string-strings.result e) c.take.ensures.look c.in_err-take-in-Text-2.ensures.cause))

pub returns-in_err-take-in-Const-clause-cause : goal.returns-in_err-take-in-Const-clause-cause
returns-in_err-take-in-Const-clause-cause c =
    let e = c.in_err-take-in-Const.field-0.0 in
    passed_up c.from_residual-in_err-take-in-Const.result e (Over c.args.bank.now c.args.tally.now.look c.args.tally.now.room c.args.number c.args.term) c.from_residual-in_err-take-in-Const.ensures.1
    (leaf_over c.args.bank.now c.args.tally.now.look c.args.number c.args.term c.args.tally.now.room (constant c.in-Const.field-0 (map (type_tree c.args.bank.now) (map (λ t. t.0) c.in-Const.types.now))) e c.in-Const.ensures.tree (subst (λ q. IsOver c.args.tally.now.look c.args.tally.now.room q e) c.of_node-nodes-in-Const.ensures c.in_err-take-in-Const.ensures.cause))

pub returns-in_err-take-in-Const-2-clause-cause : goal.returns-in_err-take-in-Const-2-clause-cause
returns-in_err-take-in-Const-2-clause-cause c =
    let e = c.in_err-take-in-Const-2.field-0.0 in
    passed_up c.from_residual-in_err-take-in-Const-2.result e (Over c.args.bank.now c.args.tally.now.look c.args.tally.now.room c.args.number c.args.term) c.from_residual-in_err-take-in-Const-2.ensures.1
    (let ts = map (type_tree c.args.bank.now) (map (λ t. t.0) c.in-Const.types.now) in
    atom_over c.args.bank.now c.args.tally.now.look c.args.number c.args.term c.args.tally.now.room c.take-in-Const.new.self.room c.of_types-wide.result (constant c.in-Const.field-0 ts) e c.in-Const.ensures.tree
    (c.in_ok-take-in-Const.ensures.room ∙ ap (λ q. c.take-in-Const.new.self.room + q) c.of_node-nodes-in-Const.ensures)
    (c.of_types-wide.ensures c.in-Const.field-0 ts (mapped_twice c.args.bank.now c.in-Const.types.now) ∙ ap (λ k. (nodes_of k).of_atom (constant c.in-Const.field-0 ts)) c.take-in-Const.ensures.look)
    (subst (λ k. IsOver k c.take-in-Const.new.self.room c.of_types-wide.result e) c.take-in-Const.ensures.look c.in_err-take-in-Const-2.ensures.cause))

pub returns-in_err-take-in-Abs-clause-cause : goal.returns-in_err-take-in-Abs-clause-cause
returns-in_err-take-in-Abs-clause-cause c =
    let e = c.in_err-take-in-Abs.field-0.0 in
    passed_up c.from_residual-in_err-take-in-Abs.result e (Over c.args.bank.now c.args.tally.now.look c.args.tally.now.room c.args.number c.args.term) c.from_residual-in_err-take-in-Abs.ensures.1
    (abstraction_over c.args.bank.now c.args.tally.now.look c.args.number c.args.term c.args.tally.now.room c.in-Abs.body e c.in-Abs.ensures.tree (subst (λ q. IsOver c.args.tally.now.look c.args.tally.now.room q e) c.of_node-nodes-in-Abs.ensures c.in_err-take-in-Abs.ensures.cause))

pub returns-in_err-below-in-Abs-clause-cause : goal.returns-in_err-below-in-Abs-clause-cause
returns-in_err-below-in-Abs-clause-cause c =
    let e = c.in_err-below-in-Abs.field-0.0 in
    passed_up c.from_residual-in_err-below-in-Abs.result e (Over c.args.bank.now c.args.tally.now.look c.args.tally.now.room c.args.number c.args.term) c.from_residual-in_err-below-in-Abs.ensures.1
    (body_over c.args.bank.now c.args.tally.now.look c.args.number c.args.term c.args.tally.now.room c.take-in-Abs.new.self.room c.in-Abs.body e c.in-Abs.ensures.tree
    (c.in_ok-take-in-Abs.ensures.room ∙ ap (λ q. c.take-in-Abs.new.self.room + q) c.of_node-nodes-in-Abs.ensures)
    (subst (λ k. TermsOver k c.take-in-Abs.new.self.room ((nodes_of k).to_part c.args.number) e) c.take-in-Abs.ensures.look c.in_err-below-in-Abs.ensures.cause))

pub returns-in_err-below-in-App-clause-cause : goal.returns-in_err-below-in-App-clause-cause
returns-in_err-below-in-App-clause-cause c =
    let e = c.in_err-below-in-App.field-0.0 in
    passed_up c.from_residual-in_err-below-in-App.result e (Over c.args.bank.now c.args.tally.now.look c.args.tally.now.room c.args.number c.args.term) c.from_residual-in_err-below-in-App.ensures.1
    (part_over c.args.bank.now c.args.tally.now.look c.args.number c.args.term c.args.tally.now.room c.in-App.head c.in-App.args e c.in-App.ensures.tree c.in-App.ensures.older.2 c.in_err-below-in-App.ensures.cause)

pub returns-in_err-front-in-App-clause-cause : goal.returns-in_err-front-in-App-clause-cause
returns-in_err-front-in-App-clause-cause c =
    let e = c.in_err-front-in-App.field-0.0 in
    passed_up c.from_residual-in_err-front-in-App.result e (Over c.args.bank.now c.args.tally.now.look c.args.tally.now.room c.args.number c.args.term) c.from_residual-in_err-front-in-App.ensures.1
    (head_over c.args.bank.now c.args.tally.now.look c.args.number c.args.term c.args.tally.now.room c.in-App.head c.in-App.args e c.in-App.ensures.tree c.in_err-front-in-App.ensures.cause)
