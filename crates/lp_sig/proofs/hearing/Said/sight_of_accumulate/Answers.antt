use Rattle.std.proofs.Common.{sym, ◌∙◌, subst, length, []}
use Rattle.std.specs.Prelude.{IfSome}
use Rattle.lp_sig.specs.Modules.{first_names}
use Rattle.lp_sig.specs.Sights.{IsSightOf}
use Rattle.lp_sig.proofs.Sights.{module_at, module_sight}
use Rattle.lp_sig.proofs.hearing.Said.sight_of_accumulate.Goals as goal

pub returns-in_err-number-clause-alike : goal.returns-in_err-number-clause-alike
returns-in_err-number-clause-alike c = λ signatures modules k h alike. let z = sym c.from_residual.ensures ∙ alike in absurd (cc)

pub returns-in_err-place-clause-alike : goal.returns-in_err-place-clause-alike
returns-in_err-place-clause-alike c = λ signatures modules k h alike. let z = sym c.from_residual-in_err-place.ensures ∙ alike in absurd (cc)

pub returns-clause-alike : goal.returns-clause-alike
returns-clause-alike c = λ signatures modules k h. module_at c.args.self.now.accumulates c.args.self.now.accum_sigs c.args.sights.now signatures modules
    c.args.word.now c.get.result c.in_ok-number.number c.in_ok-place.place c.len.result
    c.get-2.result c.copied.result k h c.get.ensures.value c.in_ok-number.was c.len.ensures.len c.in_ok-place.ensures.1 c.get-2.ensures.lookup c.copied.ensures

pub returns-clause-place : goal.returns-clause-place
returns-clause-place c = λ signatures modules k h. module_sight c.args.self.now.accumulates c.args.self.now.accum_sigs c.args.sights.now signatures modules
    c.args.word.now c.get.result c.in_ok-number.number c.in_ok-place.place c.len.result
    c.get-2.result c.copied.result k h c.get.ensures.value c.in_ok-number.was c.len.ensures.len c.in_ok-place.ensures.1 c.get-2.ensures.lookup c.copied.ensures

pub returns-in_err-number-clause-place : goal.returns-in_err-number-clause-place
returns-in_err-number-clause-place c = λ signatures modules k h. subst (λ o. IfSome o (IsSightOf c.args.sights.now (length (first_names [] signatures)) modules c.args.word.now)) (sym c.from_residual.ensures) tt

pub returns-in_err-place-clause-place : goal.returns-in_err-place-clause-place
returns-in_err-place-clause-place c = λ signatures modules k h. subst (λ o. IfSome o (IsSightOf c.args.sights.now (length (first_names [] signatures)) modules c.args.word.now)) (sym c.from_residual-in_err-place.ensures) tt
