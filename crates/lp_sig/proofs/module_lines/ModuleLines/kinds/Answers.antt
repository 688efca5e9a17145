use Rattle.lp_sig.proofs.module_lines.ModuleLines.kinds.Goals as goal

pub returns-in-Err-clause-refused : goal.returns-in-Err-clause-refused
returns-in-Err-clause-refused c = λ said k. (c.in-Err.fault, c.in-Err.ensures.why said k, c.kinds_blamed.ensures)

pub returns-in-Ok-clause-taken : goal.returns-in-Ok-clause-taken
returns-in-Ok-clause-taken c = λ said k. let m = c.in-Ok.ensures.meant said k in (m.0, m.1, c.in-Ok.ensures.taken.1)
