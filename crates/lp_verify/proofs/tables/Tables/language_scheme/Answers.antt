use Rattle.std.proofs.Common.{◌≡◌, ◌∙◌, Some, None, ap, sym}
use Rattle.std.specs.Prelude.{slice_get}
use Rattle.lp_verify.proofs.Looked.{copied_at}
use Rattle.lp_verify.proofs.LanguageTypes.{language_told}
use Rattle.lp_verify.proofs.tables.Tables.language_scheme.Goals as goal

pub returns-in-Some-Some : goal.returns-in-Some-Some
returns-in-Some-Some c = λ h l.
    let x = c.args.self.now in
    let n = c.args.constant in
    let s = c.in-Some-Some.scheme in
    let there : slice_get x.language.items n ≡ Some (Some s) = sym (ap (λ l. slice_get l n) c.deref.ensures.value) ∙ sym (copied_at c.deref.result.now n c.get.result c.get.ensures.lookup) ∙ sym c.copied.ensures ∙ c.in-Some-Some.is ∙ ap (λ o. Some o) c.in-Some-Some.field-0-is in
    language_told x.language_bank x.language.items 32 n (Some s) h l there

pub returns-in-Some-None : goal.returns-in-Some-None
returns-in-Some-None c = λ h l.
    let x = c.args.self.now in
    let n = c.args.constant in
    let there : slice_get x.language.items n ≡ Some None = sym (ap (λ l. slice_get l n) c.deref.ensures.value) ∙ sym (copied_at c.deref.result.now n c.get.result c.get.ensures.lookup) ∙ sym c.copied.ensures ∙ c.in-Some-None.is ∙ ap (λ o. Some o) c.in-Some-None.field-0-is in
    language_told x.language_bank x.language.items 32 n None h l there
