use Rattle.std.proofs.Common.{◌≡◌, ◌∙◌, ap, arith, w64, to_z, of_z}
use Rattle.std.proofs.lemmas.Int.{to_z-of_z}
use Rattle.std.proofs.lemmas.Result.{on_ok_weaker}
use Rattle.lp_calculus.specs.Term.{atom, integer}
use Rattle.lp_infer.proofs.FillingSteps.{head_forms}
use Rattle.lp_infer.proofs.terms.Terms.integer.Goals as goal

pub returns-clause-formed : goal.returns-clause-formed
returns-clause-formed c =
    let same : to_z w64 (of_z w64 c.args.value) ≡ c.args.value = grind (arith, to_z-of_z) in
    on_ok_weaker c.push.result (λ P types.
    head_forms c.args.bank.now c.put_integer.new.bank types c.args.self.now c.push.new.self c.in_ok-head.head (atom (integer c.args.value)) c.in_ok-head.ensures.kept
    (c.in_ok-head.ensures.within, c.in_ok-head.ensures.tree ∙ ap (λ z. atom (integer z)) same) P) c.push.ensures

pub returns-clause-used : goal.returns-clause-used
returns-clause-used c = on_ok_weaker c.push.result (λ P. P.used) c.push.ensures
