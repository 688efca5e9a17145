use Rattle.std.proofs.Common.{refl, sym, ◌∙◌}
use Rattle.lp_sig.specs.ModuleFaults.{is_exported, its_fault}
use Rattle.lp_sig.proofs.module_lines.ModuleLines.local_kind.Goals as goal

pub returns-then-exports_kind-clause-refused : goal.returns-then-exports_kind-clause-refused
returns-then-exports_kind-clause-refused c = λ said k. is_exported (sym c.exports_kind.ensures ∙ c.if-exports_kind.true) refl

pub returns-in-Err-clause-refused : goal.returns-in-Err-clause-refused
returns-in-Err-clause-refused c = λ said k. its_fault (sym c.exports_kind.ensures ∙ c.if-exports_kind.false) (c.in-Err.fault, c.in-Err.ensures.why said k, refl)

pub returns-in-Ok-clause-taken : goal.returns-in-Ok-clause-taken
returns-in-Ok-clause-taken c = λ said k. (sym c.exports_kind.ensures ∙ c.if-exports_kind.false, c.in-Ok.ensures.meant said k)
