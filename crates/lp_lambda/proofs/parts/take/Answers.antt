use Rattle.std.proofs.Common.{◌∙◌, ap, sym, subst, map}
use Rattle.lp_calculus.specs.Term.{apply}
use Rattle.lp_term.specs.Nodes.{tree}
use Rattle.lp_lambda.specs.Pattern.{parts_at}
use Rattle.lp_lambda.specs.inner.Walking.{scope_of, IsTaken}
use Rattle.lp_lambda.proofs.Spining.{taken_by_spine}
use Rattle.lp_lambda.proofs.parts.take.Goals as goal

pub returns-in_ok-keeps-in-Inside-clause-taken : goal.returns-in_ok-keeps-in-Inside-clause-taken
returns-in_ok-keeps-in-Inside-clause-taken c =
    let b = c.args.bank.now in
    let w = c.args.walk.now in
    let t = tree b c.args.term.0 in
    let h = tree b c.in_ok-spine-in-Inside.spine.head.0 in
    let keeps = c.in_ok-keeps-in-Inside.keeps in
    subst (λ p. IsTaken b b (parts_at p (scope_of w) t) w c.take_head.new.walk keeps) (sym c.in-Inside.is)
    (taken_by_spine b b w c.take_head.new.walk keeps t h (map (λ x. tree b x.0) c.as_slice.result.now) c.in_ok-spine-in-Inside.ensures.head
    (ap (λ l. apply h (map (λ x. tree b x.0) l)) c.as_slice.ensures.value ∙ c.in_ok-spine-in-Inside.ensures.tree) c.in_ok-keeps-in-Inside.ensures)
