use Rattle.std.proofs.Common.{◌∙◌, refl}
use Rattle.lp_infer.proofs.Needs.{one_fewer}
use Rattle.lp_infer.proofs.FillingSteps.{apply_forms}
use Rattle.lp_infer.proofs.terms.Terms.apply.Goals as goal

pub returns-clause-formed : goal.returns-clause-formed
returns-clause-formed c = λ types.
    apply_forms c.args.bank.now c.term.new.bank types c.args.self.now c.term.new.self c.pop-spine.new.self _ c.in_ok-argument.argument c.pop-spine.result (record { head = c.pop-spine.result.head; arguments = c.push.new.self }) c.in_ok-argument.ensures.kept
    c.in_ok-argument.ensures.term c.pop-spine.ensures refl c.in_ok-push.ensures.items c.in_ok-push-2.ensures.items refl

pub returns-clause-used : goal.returns-clause-used
returns-clause-used c = c.pop-spine.ensures.used ∙ c.in_ok-argument.ensures.term.popped.used

pub pop-spine-requires : goal.pop-spine-requires
pop-spine-requires c = one_fewer c.args.bank.now c.term.new.bank c.args.self.now c.term.new.self c.in_ok-argument.argument 0 c.requires c.in_ok-argument.ensures.term
