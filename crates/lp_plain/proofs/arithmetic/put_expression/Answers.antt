use Rattle.std.proofs.Common.{◌∙◌, ◌++◌, ◌∷◌, [], ap, refl, subst, sym, None, Some}
use Rattle.lp_model.specs.declared.ending.Fault.TheVariants.{NotClosed}
use Rattle.lp_plain.specs.declared.arithmetic.Outcome.TheVariants as code
use Rattle.lp_plain.specs.declared.arithmetic.Task.TheVariants as task
use Rattle.lp_plain.specs.inner.Evaluating.{IsPut}
use Rattle.lp_plain.proofs.arithmetic.put_expression.Goals as goal

pub returns-in_ok-push-in-Leaf : goal.returns-in_ok-push-in-Leaf
returns-in_ok-push-in-Leaf c = subst (λ e. IsPut e None c.args.tasks.now.items c.args.tasks.now.items c.args.values.now.items c.push.new.self.items) (sym c.in-Leaf.is) (refl, refl, c.in_ok-push-in-Leaf.ensures.items)

pub returns-in_ok-push-in-Two-3 : goal.returns-in_ok-push-in-Two-3
returns-in_ok-push-in-Two-3 c =
    subst (λ e. IsPut e None c.args.tasks.now.items c.push-in-Two-3.new.self.items c.args.values.now.items c.args.values.now.items) (sym c.in-Two.is)
    (refl, c.in_ok-push-in-Two-3.ensures.items ∙ ap (λ l. l ++ task.Visit c.in-Two.left ∷ []) (c.in_ok-push-in-Two-2.ensures.items ∙ ap (λ l. l ++ task.Visit c.in-Two.right ∷ []) c.in_ok-push-in-Two.ensures.items), refl)

pub returns-in_ok-push-in-One-2 : goal.returns-in_ok-push-in-One-2
returns-in_ok-push-in-One-2 c =
    subst (λ e. IsPut e None c.args.tasks.now.items c.push-in-One-2.new.self.items c.args.values.now.items c.args.values.now.items) (sym c.in-One.is)
    (refl, c.in_ok-push-in-One-2.ensures.items ∙ ap (λ l. l ++ task.Visit c.in-One.arg ∷ []) c.in_ok-push-in-One.ensures.items, refl)

pub returns-in-Other : goal.returns-in-Other
returns-in-Other c = subst (λ e. IsPut e (Some (code.Faults NotClosed)) c.args.tasks.now.items c.args.tasks.now.items c.args.values.now.items c.args.values.now.items) (sym c.in-Other.is) refl
