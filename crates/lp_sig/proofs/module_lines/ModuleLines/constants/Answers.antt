use Rattle.lp_sig.specs.ModuleFaults.{exports_constant, AreConstantsWrong}
use Rattle.lp_sig.proofs.Refusing.{blamed_or}
use Rattle.lp_sig.proofs.module_lines.ModuleLines.constants.Goals as goal

pub returns-in-Ok-clause-words : goal.returns-in-Ok-clause-words
returns-in-Ok-clause-words c = c.in-Ok.ensures.words

pub returns-in-Ok-clause-grown : goal.returns-in-Ok-clause-grown
returns-in-Ok-clause-grown c = record { bank = c.in-Ok.ensures.kept; constants = c.in-Ok.ensures.grown }

pub returns-in-Err-clause-refused : goal.returns-in-Err-clause-refused
returns-in-Err-clause-refused c = λ said k. blamed_or (exports_constant c.args.self.now.own.now) c.args.self.now.source.now
    (AreConstantsWrong c.args.self.now.source.now said c.args.names.now c.args.raw.now) c.in-Err.fault c.constants_blamed.result
    c.constants_blamed.ensures (c.in-Err.ensures.reason said k)

pub returns-in-Ok-clause-taken : goal.returns-in-Ok-clause-taken
returns-in-Ok-clause-taken c = λ said k. (c.in-Ok.ensures.taken, c.in-Ok.ensures.stand said k)

pub returns-in-Ok-clause-reads : goal.returns-in-Ok-clause-reads
returns-in-Ok-clause-reads c = c.in-Ok.ensures.reads

pub returns-in-Err-clause-full : goal.returns-in-Err-clause-full
returns-in-Err-clause-full c = λ said words k h. (c.in-Err.fault, c.constants_blamed.ensures, c.in-Err.ensures.full said words k h)

pub returns-in-Err-clause-other : goal.returns-in-Err-clause-other
returns-in-Err-clause-other c = λ said defs given rows words r. (c.in-Err.fault, c.constants_blamed.ensures, c.in-Err.ensures.other said defs given rows words r)

pub returns-in-Ok-clause-takes : goal.returns-in-Ok-clause-takes
returns-in-Ok-clause-takes c = c.in-Ok.ensures.takes
