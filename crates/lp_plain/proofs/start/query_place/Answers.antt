use Rattle.std.proofs.Common.{[], ◌++◌, reverse, refl, ap, ◌∙◌, subst, append-nil}
use Rattle.lp_plain.specs.Scopes.{IsScope, outermost, block_count, value_count}
use Rattle.lp_plain.proofs.start.query_place.Goals as goal

pub returns-clause-values : goal.returns-clause-values
returns-clause-values c =
    c.in_ok-scope.ensures.values ∙ ap (λ l. c.args.scopes.now.values.items ++ l) (c.as_slice-2.ensures.value ∙ c.reverse.ensures.items ∙ ap reverse (c.in_ok-inner.ensures.items ∙ c.as_slice.ensures.value))

pub returns-clause-scope : goal.returns-clause-scope
returns-clause-scope c =
    let s = c.open.new.self in
    let o = c.in_ok-scope.scope in
    subst (λ vs. IsScope s (block_count s) (value_count s) o vs) (append-nil c.as_slice-2.result.now ∙ c.as_slice-2.ensures.value ∙ c.reverse.ensures.items ∙ ap reverse (c.in_ok-inner.ensures.items ∙ c.as_slice.ensures.value))
    (c.in_ok-scope.ensures.opened [] (outermost refl refl))
