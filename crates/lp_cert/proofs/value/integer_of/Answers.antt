use Rattle.std.proofs.Common.{◌≡◌, ◌∙◌, ap, arith, sym, w64, to_z, of_z}
use Rattle.std.proofs.lemmas.Int.{to_z-of_z}
use Rattle.lp_model.specs.Values.{Is, Number}
use Rattle.lp_cert.specs.inner.Evaluated.{value_in}
use Rattle.lp_cert.proofs.Deriving.{some_is}
use Rattle.lp_cert.proofs.Evaluating.{begins_itself, none_is, text_no_number}
use Rattle.lp_cert.proofs.value.integer_of.Goals as goal

pub returns-in-Number-clause-some : goal.returns-in-Number-clause-some
returns-in-Number-clause-some c =
    let end = c.value_of.new.texts.bytes.items in
    let same : to_z w64 (of_z w64 c.in-Number.number) ≡ c.in-Number.number = grind (arith, to_z-of_z) in
    some_is _ c.in_ok-found.found c.in-Some.value c.in-Some.is c.in_ok-found.ensures.some end (begins_itself end) ∙ ap (λ v. Is (value_in end v)) c.in-Number.is ∙ ap (λ z. Is (Number z)) (sym same)

pub returns-in-Some-clause-none : goal.returns-in-Some-clause-none
returns-in-Some-clause-none c = λ e z q.
    let end = c.value_of.new.texts.bytes.items in
    text_no_number end c.in-Some.value _ _ z (some_is _ c.in_ok-found.found c.in-Some.value c.in-Some.is c.in_ok-found.ensures.some end (begins_itself end)) c.in-Text.is q

pub returns-clause-none : goal.returns-clause-none
returns-clause-none c = λ e z q. none_is _ _ (c.in_ok-found.ensures.none c.in-None.is) q
