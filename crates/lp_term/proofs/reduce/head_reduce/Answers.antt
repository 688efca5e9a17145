use Rattle.std.proofs.Common.{◌-◌, arith}
use Rattle.lp_term.proofs.Contract.{untouched, reduced}
use Rattle.lp_term.specs.Nodes.{tree}
use Rattle.lp_term.proofs.reduce.head_reduce.Goals as goal

pub returns-then-spine-limit-clause-reduced : goal.returns-then-spine-limit-clause-reduced
returns-then-spine-limit-clause-reduced c =
    untouched c.args.limit c.in_ok-spine.spine.left c.in_ok-spine.spine.depth c.reduce_spine.new.bank c.in_ok-spine.spine.head c.in_ok-spine.spine.args.items (tree c.args.bank.now c.args.term.0) _
    (omega arith) c.in_ok-spine.ensures.taken c.in_ok-spine.ensures.spine.normal (c.reduce_spine.ensures.kept.same_terms c.args.term.0 c.requires.term)

pub returns-clause-reduced : goal.returns-clause-reduced
returns-clause-reduced c =
    reduced c.args.limit (c.args.limit - c.in_ok-spine.spine.left) c.in_ok-spine.spine.depth c.reduce_spine.new.bank c.put_application.new.bank c.put_abstractions.new.bank c.in_ok-spine.spine.head c.in_ok-top.top c.in_ok-id.id
    c.in_ok-spine.spine.args.items (tree c.args.bank.now c.args.term.0) (omega arith) c.in_ok-spine.ensures.taken c.in_ok-spine.ensures.spine.normal c.in_ok-top.ensures.tree c.in_ok-id.ensures.tree
