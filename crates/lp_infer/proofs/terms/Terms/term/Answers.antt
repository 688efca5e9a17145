use Rattle.lp_infer.proofs.FillingSteps.{taken_by}
use Rattle.lp_infer.proofs.terms.Terms.term.Goals as goal

pub returns-clause-term : goal.returns-clause-term
returns-clause-term c =
    taken_by c.args.bank.now c.put_application.new.bank c.args.self.now c.pop-spine.new.self c.pop-spine.result c.pop-spine.ensures c.as_slice.result.now c.as_slice.ensures.value c.put_application.result c.put_application.ensures.within c.put_application.ensures.tree
