use Rattle.std.proofs.Common.{ap, sym, ◌∙◌}
use Rattle.lp_query.proofs.Names.{bytes, found_at, other_name, no_name}
use Rattle.lp_query.proofs.asked.place_of.Goals as goal

pub returns-then-is_same-clause-found : goal.returns-then-is_same-clause-found
returns-then-is_same-clause-found c =
    found_at c.args.names.now c.names.place c.index-names-place.result c.as_slice.result.now c.args.name.now c.names-test.true (c.as_slice.ensures.value ∙ ap bytes c.index-names-place.is) (sym c.is_same.ensures ∙ c.if-is_same.true)

pub names-preserved : goal.names-preserved
names-preserved c =
    other_name c.args.names.now c.names.place c.index-names-place.result c.as_slice.result.now c.args.name.now c.names-test.true (c.as_slice.ensures.value ∙ ap bytes c.index-names-place.is) (sym c.is_same.ensures ∙ c.if-is_same.false) c.names.invariant

pub returns-clause-none : goal.returns-clause-none
returns-clause-none c = λ e. no_name c.args.names.now c.names.place c.args.name.now c.names-test.false c.names.invariant
