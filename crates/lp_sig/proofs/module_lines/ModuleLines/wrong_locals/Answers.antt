use Rattle.std.proofs.Common.{◌≡◌, ap, sym, ◌∙◌, inl, inr}
use Rattle.lp_sig.specs.declared.module_fault.ModuleSigFault.TheVariants as wrong
use Rattle.lp_sig.proofs.Taking.{sig_is}
use Rattle.lp_sig.specs.ModuleFaults.{IsTypeFault}
use Rattle.lp_sig.specs.ModuleFaults as faults
use Rattle.lp_sig.proofs.Refusing.{its_reason}
use Rattle.lp_sig.proofs.module_lines.ModuleLines.wrong_locals.Goals as goal

pub returns-then-is_memory-clause-wrong : goal.returns-then-is_memory-clause-wrong
returns-then-is_memory-clause-wrong c = λ said raw why. inl (ap wrong.Sig (c.is_memory.ensures.memory c.if-is_memory.true))

pub returns-in-Err-clause-wrong : goal.returns-in-Err-clause-wrong
returns-in-Err-clause-wrong c = λ said raw why. inr (faults.local_exported c.args.fault (its_reason c.args.fault
    (IsTypeFault c.args.self.now.source.now said raw c.args.fault) (c.is_memory.ensures.another c.if-is_memory.false) why) c.in-Err.ensures.refused)

pub returns-in-Ok-clause-wrong : goal.returns-in-Ok-clause-wrong
returns-in-Ok-clause-wrong c = λ said raw why. inr (c.wrong_type.ensures.wrong said raw (its_reason c.args.fault
    (IsTypeFault c.args.self.now.source.now said raw c.args.fault) (c.is_memory.ensures.another c.if-is_memory.false) why) c.in-Ok.ensures.taken)

pub returns-then-is_memory-clause-told : goal.returns-then-is_memory-clause-told
returns-then-is_memory-clause-told c = λ f e. inl (sym (sig_is c.args.fault f e) ∙ c.is_memory.ensures.memory c.if-is_memory.true)

pub returns-in-Err-clause-told : goal.returns-in-Err-clause-told
returns-in-Err-clause-told c = λ f e. absurd (let z : wrong.Exported c.in-Err.ensures.refused.name ≡ wrong.Sig f = sym c.in-Err.ensures.refused.refused.1 ∙ e in cc)

pub returns-in-Ok-clause-told : goal.returns-in-Ok-clause-told
returns-in-Ok-clause-told c = c.wrong_type.ensures.told
