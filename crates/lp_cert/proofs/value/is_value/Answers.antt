use Rattle.std.proofs.Common.{◌≡◌, ◌∙◌, ap, arith, sym, w64, to_z, of_z}
use Rattle.std.proofs.lemmas.Int.{to_z-of_z}
use Rattle.lp_calculus.specs.Term.{atom, integer, text}
use Rattle.lp_model.specs.Values.{term_of}
use Rattle.lp_cert.specs.inner.Evaluated.{value_in}
use Rattle.lp_cert.proofs.value.is_value.Goals as goal

pub returns-in-Number-clause-same : goal.returns-in-Number-clause-same
returns-in-Number-clause-same c = λ e end g.
    let same : to_z w64 (of_z w64 c.in-Number.number) ≡ c.in-Number.number = grind (arith, to_z-of_z) in
    c.is_integer.ensures.same e ∙ ap (λ z. atom (integer z)) same ∙ ap (λ v. term_of (value_in end v)) (sym c.in-Number.is)

pub returns-in-Some-clause-same : goal.returns-in-Some-clause-same
returns-in-Some-clause-same c = λ e end g. c.is_text.ensures.same e ∙ ap (λ bs. atom (text bs)) (sym (c.in-Some.ensures end g)) ∙ ap (λ v. term_of (value_in end v)) (sym c.in-Text.is)

pub returns-in-Number-clause-differ : goal.returns-in-Number-clause-differ
returns-in-Number-clause-differ c = λ e end g q.
    let same : to_z w64 (of_z w64 c.in-Number.number) ≡ c.in-Number.number = grind (arith, to_z-of_z) in
    c.is_integer.ensures.differ e (q ∙ ap (λ v. term_of (value_in end v)) c.in-Number.is ∙ ap (λ z. atom (integer z)) (sym same))

pub returns-in-Some-clause-differ : goal.returns-in-Some-clause-differ
returns-in-Some-clause-differ c = λ e end g q. c.is_text.ensures.differ e (q ∙ ap (λ v. term_of (value_in end v)) c.in-Text.is ∙ ap (λ bs. atom (text bs)) (c.in-Some.ensures end g))
