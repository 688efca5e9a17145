use Rattle.std.proofs.Common.{◌∙◌, ap}
use Rattle.lp_calculus.specs.Types.{instance}
use Rattle.lp_model.specs.Search.{has_type_variable}
use Rattle.lp_pattern.proofs.Walking.{types_kept}
use Rattle.lp_plain.proofs.OpenNodes.{or_none}
use Rattle.lp_plain.proofs.OpenGoals.{type_judged}
use Rattle.lp_plain.proofs.openness.openness_of_type.Goals as goal

pub returns-clause-judged : goal.returns-clause-judged
returns-clause-judged c = λ θ r.
    type_judged c.in_ok-found.found _ (θ c.args.number) c.judged.ensures (c.in_ok-found.ensures.found ∙ or_none _ ∙ ap has_type_variable
    (c.in_ok-full.ensures.filled θ (types_kept c.args.bank.now c.put_type_variable.new.bank c.args.bindings.now θ c.in_ok-written.ensures.kept r) ∙ ap (instance θ) c.in_ok-written.ensures.tree))
