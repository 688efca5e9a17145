use Rattle.std.proofs.Common.{◌∙◌, ◌<◌, length, ap, sym, subst}
use Rattle.std.specs.Prelude.{◌^◌, IfOk, option_copied}
use Rattle.lp_verify.specs.inner.Stack.{IsFilled}
use Rattle.lp_verify.specs.inner.Handed.{types_captured}
use Rattle.lp_verify.proofs.record.Shared.filled_types.Goals as goal

pub returns-in-Some-clause-filled : goal.returns-in-Some-clause-filled
returns-in-Some-clause-filled c =
    subst (λ l. IfOk c.filled.result (λ rs. length l < 2 ^ 16 → IsFilled l rs)) (c.as_slice.ensures.value ∙ ap types_captured (sym (ap option_copied c.in-Some.is) ∙ c.captured.ensures)) c.filled.ensures.filled

pub returns-in-None-clause-filled : goal.returns-in-None-clause-filled
returns-in-None-clause-filled c = subst (λ l. IfOk c.filled-in-None.result (λ rs. length l < 2 ^ 16 → IsFilled l rs)) (ap types_captured (sym (ap option_copied c.in-None.is) ∙ c.captured.ensures)) c.filled-in-None.ensures.filled
