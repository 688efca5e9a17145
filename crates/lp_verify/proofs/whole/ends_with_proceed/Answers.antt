use Rattle.std.proofs.Common.{◌∙◌, ap, sym}
use Rattle.std.specs.Option.{option_copied}
use Rattle.lp_verify.specs.inner.Sides.{is_proceed}
use Rattle.lp_verify.proofs.Places.{proceed_is}
use Rattle.lp_verify.proofs.whole.ends_with_proceed.Goals as goal

pub returns-in-Some : goal.returns-in-Some
returns-in-Some c = c.is_proceed.ensures ∙ ap is_proceed (sym (ap option_copied c.in-Some.is) ∙ c.last.ensures.value) ∙ proceed_is c.args.code.now

pub returns-in-None : goal.returns-in-None
returns-in-None c = ap is_proceed (sym (ap option_copied c.in-None.is) ∙ c.last.ensures.value) ∙ proceed_is c.args.code.now
