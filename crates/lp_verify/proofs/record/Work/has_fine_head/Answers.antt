use Rattle.std.proofs.Common.{◌∙◌, ap, sym}
use Rattle.lp_lemmas.proofs.Options.{one_value}
use Rattle.lp_code.specs.declared.record.RecordHead.TheVariants.{Register}
use Rattle.lp_code.specs.Denote.{heads, head_passes}
use Rattle.lp_verify.specs.inner.At.{home_in}
use Rattle.lp_verify.proofs.HeadRules.{no_head}
use Rattle.lp_verify.proofs.record.Work.has_fine_head.Goals as goal

pub returns-in-None-clause-low : goal.returns-in-None-clause-low
returns-in-None-clause-low c = λ e r f. no_head c.args.self.now.home.record.now.head r c.in-None.is f

pub returns-in-None-clause-fine : goal.returns-in-None-clause-fine
returns-in-None-clause-fine c = λ l s language basics same low alls. ap (head_passes (heads (home_in c.args.self.now.home) s)) (sym c.in-None.is)

pub returns-in-Some-clause-low : goal.returns-in-Some-clause-low
returns-in-Some-clause-low c = λ e r f. c.is_fine_head.ensures.low e r (one_value c.args.self.now.home.record.now.head c.in-Some.of (Register r) c.in-Some.is f)

pub returns-in-Some-clause-fine : goal.returns-in-Some-clause-fine
returns-in-Some-clause-fine c = λ l s language basics same low alls. c.is_fine_head.ensures.fine l s language basics same low alls ∙ ap (head_passes (heads (home_in c.args.self.now.home) s)) (sym c.in-Some.is)
