use Rattle.std.proofs.Common.{length}
use Rattle.lp_term.specs.Nodes.{type_tree}
use Rattle.lp_type_unify.specs.Reading.{read_pairs}
use Rattle.lp_type_unify.proofs.Splits.{turned_even, turned_uneven, todos_even}
use Rattle.lp_type_unify.proofs.looking.split.Goals as goal

pub returns-then-ids-others-clause-turned : goal.returns-then-ids-others-clause-turned
returns-then-ids-others-clause-turned c = λ θ.
    let τ = type_tree c.args.bank.now in
    turned_uneven τ θ c.in-Con.c c.in-Con-type_node.d c.in-Con.ids.now c.in-Con-type_node.others.now (τ c.args.left.0) (τ c.args.right.0) (read_pairs τ θ c.args.todo.now.items)
    c.in-Con.ensures.tree c.in-Con-type_node.ensures.tree c.if-c-d.false c.if-ids-others.true

pub returns-in_ok-push_pairs-in-Con-type_node-clause-turned : goal.returns-in_ok-push_pairs-in-Con-type_node-clause-turned
returns-in_ok-push_pairs-in-Con-type_node-clause-turned c = λ θ.
    let τ = type_tree c.args.bank.now in
    turned_even τ θ c.in-Con.c c.in-Con-type_node.d c.in-Con.ids.now c.in-Con-type_node.others.now (τ c.args.left.0) (τ c.args.right.0) c.args.todo.now.items c.push_pairs.new.todo.items
    c.in-Con.ensures.tree c.in-Con-type_node.ensures.tree c.if-c-d.false c.if-ids-others.false c.in_ok-push_pairs-in-Con-type_node.ensures

pub returns-in_ok-push_pairs-in-Con-type_node-clause-todos : goal.returns-in_ok-push_pairs-in-Con-type_node-clause-todos
returns-in_ok-push_pairs-in-Con-type_node-clause-todos c =
    todos_even (length c.args.bank.now.types) c.in-Con.ids.now c.in-Con-type_node.others.now c.args.left c.args.right c.args.todo.now.items c.push_pairs.new.todo.items
    c.in-Con.ensures.older c.in-Con-type_node.ensures.older c.in_ok-push_pairs-in-Con-type_node.ensures c.requires.left c.requires.right c.requires.todos
