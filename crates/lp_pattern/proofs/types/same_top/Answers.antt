use Rattle.std.proofs.Common.{◌∙◌, ap, ◌++◌, ◌∷◌, []}
use Rattle.lp_term.specs.Nodes.{type_tree}
use Rattle.lp_pattern.proofs.SameTypes.{tops_even, tops_uneven, tops_arrow}
use Rattle.lp_pattern.proofs.types.same_top.Goals as goal

pub returns-then-ids-others : goal.returns-then-ids-others
returns-then-ids-others c = λ θ l k.
    tops_uneven c.args.bank.now θ c.in-Con.c c.in-Con-type_node-3.d c.in-Con.ids.now c.in-Con-type_node-3.others.now (type_tree c.args.bank.now c.args.one.0) (type_tree c.args.bank.now c.args.other.0)
    c.in-Con.ensures.tree c.in-Con-type_node-3.ensures.tree c.if-c-d.false c.if-ids-others.true

pub returns-in_ok-push_pairs-in-Con-type_node-3 : goal.returns-in_ok-push_pairs-in-Con-type_node-3
returns-in_ok-push_pairs-in-Con-type_node-3 c = λ θ l k.
    tops_even c.args.bank.now θ c.in-Con.c c.in-Con-type_node-3.d c.in-Con.ids.now c.in-Con-type_node-3.others.now (type_tree c.args.bank.now c.args.one.0) (type_tree c.args.bank.now c.args.other.0)
    c.args.left.now.items c.push_pairs.new.left.items c.in-Con.ensures.tree c.in-Con-type_node-3.ensures.tree c.if-c-d.false c.if-ids-others.false c.in_ok-push_pairs-in-Con-type_node-3.ensures

pub returns-in_ok-push-in-Arrow-type_node-4-2 : goal.returns-in_ok-push-in-Arrow-type_node-4-2
returns-in_ok-push-in-Arrow-type_node-4-2 c = λ θ l k.
    tops_arrow c.args.bank.now θ c.in-Arrow.a c.in-Arrow.b c.in-Arrow-type_node-4.c c.in-Arrow-type_node-4.d (type_tree c.args.bank.now c.args.one.0) (type_tree c.args.bank.now c.args.other.0)
    c.args.left.now.items c.push-in-Arrow-type_node-4.new.self.items c.in-Arrow.ensures.tree c.in-Arrow-type_node-4.ensures.tree
    (c.in_ok-push-in-Arrow-type_node-4-2.ensures.items ∙ ap (λ l. l ++ (c.in-Arrow.a, c.in-Arrow-type_node-4.c) ∷ []) c.in_ok-push-in-Arrow-type_node-4.ensures.items)
