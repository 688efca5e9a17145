use Rattle.std.proofs.Common.{sym, ◌∙◌, subst}
use Rattle.std.specs.Prelude.{IfSome}
use Rattle.lp_sig.specs.Sights.{IsSightOf}
use Rattle.lp_sig.proofs.Sights.{signature_at, signature_sight}
use Rattle.lp_sig.proofs.hearing.Said.sight_of_accum_sig.Goals as goal

pub returns-in_err-number-clause-alike : goal.returns-in_err-number-clause-alike
returns-in_err-number-clause-alike c = λ signatures h alike. let z = sym c.from_residual.ensures ∙ alike in absurd (cc)

pub returns-clause-alike : goal.returns-clause-alike
returns-clause-alike c = λ signatures h. signature_at c.args.self.now.accum_sigs c.args.sights.now signatures c.args.word.now c.get.result c.in_ok-number.number
    c.get-2.result c.copied.result h c.get.ensures.value c.in_ok-number.was c.get-2.ensures.lookup c.copied.ensures

pub returns-clause-place : goal.returns-clause-place
returns-clause-place c = λ signatures h. signature_sight c.args.self.now.accum_sigs c.args.sights.now signatures c.args.word.now c.get.result c.in_ok-number.number
    c.get-2.result c.copied.result h c.get.ensures.value c.in_ok-number.was c.get-2.ensures.lookup c.copied.ensures

pub returns-in_err-number-clause-place : goal.returns-in_err-number-clause-place
returns-in_err-number-clause-place c = λ signatures h. subst (λ o. IfSome o (IsSightOf c.args.sights.now 0 signatures c.args.word.now)) (sym c.from_residual.ensures) tt
