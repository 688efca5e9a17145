use Rattle.std.proofs.Common.{◌∙◌, ap, length}
use Rattle.lp_gen.specs.inner.Listing.{around_of}
use Rattle.lp_gen.specs.Steps.{first_place}
use Rattle.lp_gen.proofs.HeadNodes.{other_place}
use Rattle.lp_gen.proofs.head.place_of.Goals as goal

pub returns-in_default : goal.returns-in_default
returns-in_default c =
    let b = c.args.bank.now in
    let a = around_of b c.args.environment.now in
    other_place b a (length b.types) c.args.argument.0 c.term_node.result c.in_default.not-Index c.term_node.ensures.older ∙ ap (first_place a) c.term_node.ensures.tree
