use Rattle.std.proofs.Common.{◌∙◌}
use Rattle.std.proofs.lemmas.Result.{on_ok_weaker}
use Rattle.lp_infer.proofs.FillingSteps.{close_forms}
use Rattle.lp_infer.proofs.terms.Terms.close.Goals as goal

pub returns-clause-formed : goal.returns-clause-formed
returns-clause-formed c = on_ok_weaker c.push.result (λ P types.
    close_forms c.args.bank.now c.term.new.bank c.put_abstraction.new.bank types c.args.self.now c.term.new.self c.push.new.self c.in_ok-body.body
    c.in_ok-head.head c.in_ok-body.ensures.kept c.in_ok-head.ensures.kept c.in_ok-body.ensures.term
    (c.in_ok-head.ensures.within, c.in_ok-head.ensures.tree) P) c.push.ensures

pub returns-clause-used : goal.returns-clause-used
returns-clause-used c = on_ok_weaker c.push.result (λ P. P.used ∙ c.in_ok-body.ensures.term.popped.used) c.push.ensures
