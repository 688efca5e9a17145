use Rattle.std.proofs.Common.{◌∙◌, drop, ap, sym}
use Rattle.std.specs.Prelude.{option_copied, slice_get}
use Rattle.std.proofs.Math.Seq.{drop-nil}
use Rattle.lp_verify.specs.inner.Indices.{items_of}
use Rattle.lp_verify.proofs.Looked.{copied_at}
use Rattle.lp_verify.proofs.loose.Lists.entries.Goals as goal

pub returns-in-Some : goal.returns-in-Some
returns-in-Some c =
    let n = c.args.loose.list in
    c.rest.ensures ∙ ap (drop c.args.loose.from) (c.as_slice.ensures.value ∙ ap items_of (sym (ap option_copied c.in-Some.is) ∙ copied_at c.deref.result.now n c.get.result c.get.ensures.lookup ∙ ap (λ l. slice_get l n) c.deref.ensures.value))

pub returns-in-None : goal.returns-in-None
returns-in-None c =
    let n = c.args.loose.list in
    sym (ap (λ o. drop c.args.loose.from (items_of o)) (sym (ap (λ l. slice_get l n) c.deref.ensures.value) ∙ sym (copied_at c.deref.result.now n c.get.result c.get.ensures.lookup) ∙ ap option_copied c.in-None.is) ∙ drop-nil c.args.loose.from)
