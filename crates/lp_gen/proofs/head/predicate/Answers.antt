use Rattle.std.proofs.Common.{◌∙◌, ap, length}
use Rattle.lp_gen.specs.inner.Listing.{around_of}
use Rattle.lp_gen.specs.inner.Heading.{predicate_of}
use Rattle.lp_gen.proofs.HeadNodes.{other_predicate}
use Rattle.lp_gen.proofs.head.predicate.Goals as goal

pub returns-in_default : goal.returns-in_default
returns-in_default c =
    let b = c.args.bank.now in
    let a = around_of b c.args.environment.now in
    other_predicate b a (length b.types) c.args.head.0 c.term_node.result c.in_default.not-Index c.in_default.not-Const c.term_node.ensures.older ∙ ap (predicate_of a) c.term_node.ensures.tree
