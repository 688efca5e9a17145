use Rattle.std.proofs.Common.{◌∙◌, ap}
use Rattle.std.proofs.lemmas.Result.{on_ok_weaker}
use Rattle.lp_calculus.specs.Term.{atom, text}
use Rattle.lp_infer.specs.Texts.{string_bytes}
use Rattle.lp_infer.proofs.FillingSteps.{head_forms}
use Rattle.lp_infer.proofs.terms.Terms.text.Goals as goal

pub returns-clause-formed : goal.returns-clause-formed
returns-clause-formed c = on_ok_weaker c.push.result (λ P types.
    head_forms c.args.bank.now c.put_text.new.bank types c.args.self.now c.push.new.self c.in_ok-head.head (atom (text (string_bytes c.args.token.now))) c.in_ok-head.ensures.kept
    (c.in_ok-head.ensures.within, c.in_ok-head.ensures.tree ∙ ap (λ s. atom (text s)) (c.as_slice.ensures.value ∙ c.in_ok-bytes.ensures)) P) c.push.ensures

pub returns-clause-used : goal.returns-clause-used
returns-clause-used c = on_ok_weaker c.push.result (λ P. P.used) c.push.ensures
