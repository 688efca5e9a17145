use Rattle.std.proofs.Common.{◌∙◌, ap, sym, length, map, reverse}
use Rattle.lp_gen.specs.inner.Reading.{read}
use Rattle.lp_gen.specs.Steps.{constant_function, head_type}
use Rattle.lp_gen.specs.inner.Listing.{around_of, term_function}
use Rattle.lp_gen.proofs.Courses.{other_head}
use Rattle.lp_gen.proofs.listing.type_of_head.Goals as goal

pub returns-in_default : goal.returns-in_default
returns-in_default c =
    let b = c.args.tables.bank.now in
    let K = constant_function b c.args.tables.constants.now in
    let C = map (read b) (reverse c.args.bound.now) in
    let a = around_of b c.args.environment.now in
    c.constant_type.ensures ∙ ap (term_function K) (sym c.term_node.ensures.tree)
    ∙ other_head K C a b (length b.types) c.args.head.0 c.term_node.result c.in_default.not-Index c.term_node.ensures.older ∙ ap (head_type K C a) c.term_node.ensures.tree
