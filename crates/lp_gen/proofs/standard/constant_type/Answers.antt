use Rattle.std.proofs.Common.{◌∙◌, ap, length}
use Rattle.lp_gen.specs.Steps.{constant_function}
use Rattle.lp_gen.specs.inner.Listing.{term_function}
use Rattle.lp_gen.proofs.Courses.{other_function}
use Rattle.lp_gen.proofs.standard.constant_type.Goals as goal

pub returns-in_default : goal.returns-in_default
returns-in_default c =
    let K = constant_function c.args.bank.now c.args.constants.now in
    other_function K c.args.bank.now (length c.args.bank.now.types) c.args.node.0 c.term_node.result c.in_default.not-Const c.term_node.ensures.older ∙ ap (term_function K) c.term_node.ensures.tree
