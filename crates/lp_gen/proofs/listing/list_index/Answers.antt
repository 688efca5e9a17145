use Rattle.std.proofs.Common.{◌∙◌, sym, subst, arith}
use Rattle.lp_gen.specs.declared.term_steps.TermStep.TheVariants as step
use Rattle.lp_gen.specs.inner.Listing.{around_of}
use Rattle.lp_gen.specs.inner.Tasks.{Adds}
use Rattle.lp_gen.proofs.Courses.{adds_one, index_bound, index_outer}
use Rattle.lp_gen.proofs.listing.list_index.Goals as goal

pub returns-in_ok-push-in-Some : goal.returns-in_ok-push-in-Some
returns-in_ok-push-in-Some c = λ b.
    adds_one b c.args.environment.now c.args.steps.now.items c.push.new.self.items (step.Index c.args.index c.in-Some.of) _ c.in_ok-push-in-Some.ensures.items
    (index_bound b (around_of b c.args.environment.now) c.args.bound.now c.args.index c.in-Some.of (sym c.bound_type.ensures ∙ c.in-Some.is))

pub returns-in_ok-variable-in-None : goal.returns-in_ok-variable-in-None
returns-in_ok-variable-in-None c = λ b.
    subst (Adds b c.args.environment.now c.variable.new.environment c.args.steps.now.items c.variable.new.steps.items)
    (index_outer b (around_of b c.args.environment.now) c.args.bound.now c.args.index c.saturating_sub.result (sym c.bound_type.ensures ∙ c.in-None.is) (omega (arith, c.saturating_sub.ensures)))
    (c.in_ok-variable-in-None.ensures b)
