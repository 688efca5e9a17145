use Rattle.lp_cert.proofs.Deriving.{abstraction_moves}
use Rattle.lp_cert.proofs.Keeping.{abstraction_keeps}
use Rattle.std.proofs.Common.{◌∙◌, ap, ◌++◌, ◌∷◌, []}
use Rattle.lp_cert.specs.declared.typing.Task.TheVariants as task
use Rattle.lp_cert.proofs.typing.Typing.abstraction.Goals as goal

pub returns-clause-moves : goal.returns-clause-moves
returns-clause-moves c = λ e b g θ T s d.
    abstraction_moves b θ c.args.self.now c.new_variable.new.self c.push.new.self.items c.push-2.new.self.items c.push-3.new.self.items c.in_ok-from.from c.args.body T c.in_ok-from.ensures.grown c.in_ok-push.ensures.items c.in_ok-push-2.ensures.items c.in_ok-push-3.ensures.items s d

pub returns-clause-keeps : goal.returns-clause-keeps
returns-clause-keeps c = λ y h.
    let g = c.in_ok-from.ensures.grown in
    abstraction_keeps c.args.bank.now c.new_variable.new.bank c.args.self.now _ c.push-2.new.self.items c.in_ok-from.from c.args.body c.in_ok-from.ensures.kept y g.rest.constants g.rest.eigens g.stack g.rest.pairs c.in_ok-from.ensures.next
    (c.in_ok-push.ensures.items ∙ ap (λ x. x.items ++ c.in_ok-from.from ∷ []) g.rest.context) (c.in_ok-push-2.ensures.items ∙ ap (λ x. x.items ++ task.Close ∷ []) g.rest.tasks) c.in_ok-push-3.ensures.items c.in_ok-from.ensures.within c.in_ok-from.ensures.fresh h
