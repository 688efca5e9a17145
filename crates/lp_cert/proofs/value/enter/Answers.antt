use Rattle.std.proofs.Common.{◌≡◌, ◌∙◌, ap, arith, sym, reverse, w64, to_z, of_z}
use Rattle.std.proofs.lemmas.Int.{to_z-of_z}
use Rattle.lp_term.specs.Nodes.{tree}
use Rattle.lp_model.specs.Values.{Bytes, Is, Number, value}
use Rattle.lp_cert.specs.inner.Evaluated.{within}
use Rattle.lp_cert.proofs.Evaluating.{enters_on, given_that, none_leads}
use Rattle.lp_cert.proofs.Endings.{application}
use Rattle.lp_model.specs.declared.ending.Fault.TheVariants.{NotClosed}
use Rattle.lp_cert.proofs.value.enter.Goals as goal

pub returns-in-Int-clause-leads : goal.returns-in-Int-clause-leads
returns-in-Int-clause-leads c = λ end g o h.
    let same : to_z w64 (of_z w64 c.in-Int.value) ≡ c.in-Int.value = grind (arith, to_z-of_z) in
    h ∙ ap (λ t. within c.args.bank.now end (reverse c.args.around.now.items) (value t)) (sym c.in-Int.ensures.tree) ∙ ap (λ z. within c.args.bank.now end (reverse c.args.around.now.items) (Is (Number z))) (sym same)

pub returns-in_ok-text-in-Text-clause-leads : goal.returns-in_ok-text-in-Text-clause-leads
returns-in_ok-text-in-Text-clause-leads c = λ end g o h.
    h ∙ ap (λ t. within c.args.bank.now end (reverse c.args.around.now.items) (value t)) (sym c.in-Text.ensures.tree) ∙ ap (λ bs. within c.args.bank.now end (reverse c.args.around.now.items) (Is (Bytes bs))) (sym (c.in_ok-text-in-Text.ensures.put end g))

pub returns-in-App-clause-leads : goal.returns-in-App-clause-leads
returns-in-App-clause-leads c = enters_on c.enter_application.result c.args.texts.now.bytes.items c.args.bank.now (tree c.args.bank.now c.args.term.0)
    c.args.around.now.items c.enter_application.new.around.items (given_that c.enter_application.result _ _
    (application c.args.bank.now _ (tree c.args.bank.now c.args.term.0) c.in-App.field-1.now c.in-App.ensures.within.2 c.in-App.ensures.tree)
    c.enter_application.ensures)

pub returns-in-Index-clause-leads : goal.returns-in-Index-clause-leads
returns-in-Index-clause-leads c = λ end g o h. none_leads c.args.bank.now end (reverse c.args.around.now.items) o (value (tree c.args.bank.now c.args.term.0)) (NotClosed, ap value (sym c.in-Index.ensures.tree)) h

pub returns-in-Const-clause-leads : goal.returns-in-Const-clause-leads
returns-in-Const-clause-leads c = λ end g o h. none_leads c.args.bank.now end (reverse c.args.around.now.items) o (value (tree c.args.bank.now c.args.term.0)) (NotClosed, ap value (sym c.in-Const.ensures.tree)) h

pub returns-in-Eigen-clause-leads : goal.returns-in-Eigen-clause-leads
returns-in-Eigen-clause-leads c = λ end g o h. none_leads c.args.bank.now end (reverse c.args.around.now.items) o (value (tree c.args.bank.now c.args.term.0)) (NotClosed, ap value (sym c.in-Eigen.ensures.tree)) h

pub returns-in-Logic-clause-leads : goal.returns-in-Logic-clause-leads
returns-in-Logic-clause-leads c = λ end g o h. none_leads c.args.bank.now end (reverse c.args.around.now.items) o (value (tree c.args.bank.now c.args.term.0)) (NotClosed, ap value (sym c.in-Logic.ensures.tree)) h

pub returns-in-Param-clause-leads : goal.returns-in-Param-clause-leads
returns-in-Param-clause-leads c = λ end g o h. none_leads c.args.bank.now end (reverse c.args.around.now.items) o (value (tree c.args.bank.now c.args.term.0)) (NotClosed, ap value (sym c.in-Param.ensures.tree)) h

pub returns-in-Abs-clause-leads : goal.returns-in-Abs-clause-leads
returns-in-Abs-clause-leads c = λ end g o h. none_leads c.args.bank.now end (reverse c.args.around.now.items) o (value (tree c.args.bank.now c.args.term.0)) (NotClosed, ap value (sym c.in-Abs.ensures.tree)) h
