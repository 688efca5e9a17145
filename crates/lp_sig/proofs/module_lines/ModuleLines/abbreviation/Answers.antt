use Rattle.std.proofs.Common.{sym, subst}
use Rattle.lp_sig.specs.Sighted.{GrowsBehind}
use Rattle.lp_sig.proofs.KnownConstants.{grows_same}
use Rattle.lp_sig.specs.ModuleFaults.{exports_kind, IsAbbreviationWrong}
use Rattle.lp_sig.proofs.Refusing.{blamed_or}
use Rattle.lp_sig.proofs.module_lines.ModuleLines.abbreviation.Goals as goal

pub returns-in-Ok-clause-grown : goal.returns-in-Ok-clause-grown
returns-in-Ok-clause-grown c = record {
  bank = c.declare_abbreviation.ensures.kept;
  constants = subst (GrowsBehind c.args.making.now.constants) (sym c.declare_abbreviation.ensures.constants) (grows_same c.args.making.now.constants);
}

pub returns-in-Err-clause-refused : goal.returns-in-Err-clause-refused
returns-in-Err-clause-refused c = λ z k u. blamed_or (exports_kind c.args.self.now.own.now) c.args.self.now.source.now
    (IsAbbreviationWrong c.args.self.now.source.now z c.args.name c.args.parameters.now c.args.raw.now) c.in-Err.fault c.kinds_blamed.result
    c.kinds_blamed.ensures (c.in-Err.ensures.reason z k u)

pub returns-in-Ok-clause-taken : goal.returns-in-Ok-clause-taken
returns-in-Ok-clause-taken c = λ z k u. c.in-Ok.ensures.stand z k u

pub returns-in-Err-clause-other : goal.returns-in-Err-clause-other
returns-in-Err-clause-other c = λ said defs k h. (c.in-Err.fault, c.kinds_blamed.ensures, c.in-Err.ensures.other said defs k h)
