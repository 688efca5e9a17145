use Rattle.std.proofs.Common.{ap, refl, sym, ◌∙◌, inl, inr}
use Rattle.lp_sig.proofs.Taking.{sig_is}
use Rattle.lp_sig.specs.ModuleFaults as faults
use Rattle.lp_sig.specs.declared.module_fault.ModuleSigFault.TheVariants as wrong
use Rattle.lp_sig.proofs.module_lines.ModuleLines.wrong_type.Goals as goal

pub returns-in-Err-clause-wrong : goal.returns-in-Err-clause-wrong
returns-in-Err-clause-wrong c = λ said raw f none. let l = c.in-Err.ensures.long in faults.local_long c.args.fault f none l.1.0 l.1.1 l.1.2 (ap (λ f. wrong.Sig f) l.0)

pub returns-in-Ok-clause-wrong : goal.returns-in-Ok-clause-wrong
returns-in-Ok-clause-wrong c = λ said raw f none. faults.local_type c.args.fault f none c.in-Ok.ensures.taken refl

pub returns-in-Err-clause-told : goal.returns-in-Err-clause-told
returns-in-Err-clause-told c = λ f e. inr (inl (sym (sig_is c.in-Err.long f e) ∙ c.in-Err.ensures.long.0))

pub returns-in-Ok-clause-told : goal.returns-in-Ok-clause-told
returns-in-Ok-clause-told c = λ f e. inr (inr (sym (sig_is c.args.fault f e)))
