use Rattle.std.proofs.Common.{◌∙◌, ◌<◌, map, reverse, length, ap, arith}
use Rattle.lp_term.specs.Nodes.{tree}
use Rattle.lp_gen.specs.declared.types.TypeView.TheVariants.{Proposition}
use Rattle.lp_gen.specs.inner.Reading.{read}
use Rattle.lp_gen.specs.Steps.{constant_function, head_type}
use Rattle.lp_gen.specs.inner.Listing.{around_of}
use Rattle.lp_gen.specs.inner.Tasks.{course}
use Rattle.lp_gen.proofs.Works.{has_args, visits_spine}
use Rattle.lp_gen.proofs.Courses.{visits_abstraction, visits_application, visits_leaf, bound_pushed}
use Rattle.lp_gen.proofs.listing.visit.Goals as goal

pub returns-in_ok-push-in-App-3-clause-less : goal.returns-in_ok-push-in-App-3-clause-less
returns-in_ok-push-in-App-3-clause-less c =
    visits_spine c.args.tables.bank.now c.args.work.now.items c.push-in-App.new.self.items c.push-in-App-2.new.self.items c.push-in-App-3.new.self.items c.in_ok-head-in-App.field-0.head c.args.term
    c.in_ok-head-in-App.field-0.args.items c.reverse.new.self c.len.result c.type_of_head-function.result Proposition
    c.in-App.field-0.0 (map (λ t. t.0) c.in-App.field-1.now) c.in_ok-push-in-App.ensures.items c.in_ok-push-in-App-2.ensures.items c.in_ok-push-in-App-3.ensures.items c.reverse.ensures.items
    c.in-App.ensures.tree c.in-App.ensures.older.2
    c.in_ok-head-in-App.ensures.head c.in_ok-head-in-App.ensures.tree

pub returns-in_ok-push-in-App-3-clause-acts : goal.returns-in_ok-push-in-App-3-clause-acts
returns-in_ok-push-in-App-3-clause-acts c =
    let b = c.args.tables.bank.now in
    let K = constant_function b c.args.tables.constants.now in
    let head = c.in_ok-head-in-App.field-0.head in
    let args = c.in_ok-head-in-App.field-0.args.items in
    let some : 0 < length args = has_args b head c.args.term args c.in-App.field-0.0 (map (λ t. t.0) c.in-App.field-1.now) c.in-App.ensures.tree
    c.in-App.ensures.older.2 c.in_ok-head-in-App.ensures.head
    c.in_ok-head-in-App.ensures.tree in
    visits_application K b c.args.work.now.items c.push-in-App.new.self.items c.push-in-App-2.new.self.items c.push-in-App-3.new.self.items head c.args.term args c.reverse.new.self c.len.result
    c.type_of_head-function.result c.args.of (course b c.args.environment.now c.args.lists.now) c.in_ok-push-in-App.ensures.items
    c.in_ok-push-in-App-2.ensures.items c.in_ok-push-in-App-3.ensures.items
    c.reverse.ensures.items (omega (arith, c.len.ensures, c.reverse.new.self.ok, c.reverse.ensures.len, c.in_ok-head-in-App.field-0.args.ok))
    (λ e. let z = ap length e in omega (arith, some, z)) c.in_ok-head-in-App.ensures.head c.in_ok-head-in-App.ensures.tree
    (c.type_of_head-function.ensures ∙ ap (λ l. head_type K (map (read b) (reverse l)) (around_of b c.args.environment.now) (tree b head.0)) c.as_slice.ensures.value)

pub returns-in_ok-push-in-Abs-3-clause-acts : goal.returns-in_ok-push-in-Abs-3-clause-acts
returns-in_ok-push-in-Abs-3-clause-acts c =
    let b = c.args.tables.bank.now in
    visits_abstraction (constant_function b c.args.tables.constants.now) b c.args.work.now.items c.push-in-Abs.new.self.items c.push-in-Abs-2.new.self.items c.in-Abs.body c.args.term
    c.sides-from.result.0 c.sides-from.result.1 c.args.of (course b c.args.environment.now c.args.lists.now)
    (course b c.args.environment.now (record { bound = c.push.new.self; steps = c.args.lists.now.steps })) c.in_ok-push-in-Abs-2.ensures.items c.in_ok-push-in-Abs-3.ensures.items
    c.in-Abs.ensures.tree c.sides-from.ensures.from c.sides-from.ensures.to (bound_pushed b c.args.environment.now c.args.lists.now c.push.new.self
    c.sides-from.result.0 c.in_ok-push-in-Abs.ensures.items)

pub returns-in_ok-leaf-in_default-clause-acts : goal.returns-in_ok-leaf-in_default-clause-acts
returns-in_ok-leaf-in_default-clause-acts c =
    let b = c.args.tables.bank.now in
    visits_leaf (constant_function b c.args.tables.constants.now) b c.args.work.now.items c.term_node.result c.args.term c.args.of c.args.environment.now c.leaf.new.environment c.args.lists.now
    c.leaf.new.lists c.in_default.not-Abs c.in_default.not-App c.term_node.ensures.tree c.in_ok-leaf-in_default.ensures.bound (c.in_ok-leaf-in_default.ensures.adds b)
