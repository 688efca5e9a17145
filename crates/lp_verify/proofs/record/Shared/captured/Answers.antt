use Rattle.std.proofs.Common.{◌∙◌, ap, sym}
use Rattle.std.specs.Prelude.{option_and_then, option_copied, slice_get}
use Rattle.lp_verify.proofs.Looked.{copied_at}
use Rattle.lp_verify.proofs.record.Shared.captured.Goals as goal

pub returns-in-Some : goal.returns-in-Some
returns-in-Some c =
    let hs = c.args.self.now.handed.items in
    let place = c.in-Some.place.now in
    copied_at c.as_slice.result.now place c.get-in-Some.result c.get-in-Some.ensures.lookup ∙ ap (λ l. slice_get l place) c.as_slice.ensures.value ∙ ap (option_and_then (slice_get hs)) (sym (ap option_copied c.in-Some.is) ∙ c.get.ensures.value)

pub returns-in-None : goal.returns-in-None
returns-in-None c = ap (option_and_then (slice_get c.args.self.now.handed.items)) (sym (ap option_copied c.in-None.is) ∙ c.get.ensures.value)
