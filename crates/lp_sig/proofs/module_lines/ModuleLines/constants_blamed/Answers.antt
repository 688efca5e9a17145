use Rattle.std.proofs.Common.{sym, ap, ◌∙◌}
use Rattle.std.specs.Prelude.{if◌then◌else◌}
use Rattle.lp_sig.specs.ModuleFaults.{exports_constant}
use Rattle.lp_sig.specs.declared.module_fault.ModuleSigFault.TheVariants as wrong
use Rattle.lp_sig.proofs.Refusing.{blamed_none, blamed_some}
use Rattle.lp_sig.proofs.module_lines.ModuleLines.constants_blamed.Goals as goal

pub returns-in_default : goal.returns-in_default
returns-in_default c = blamed_none (exports_constant c.args.self.now.own.now) c.args.self.now.source.now c.args.fault c.differing.result c.differing.ensures c.in_default.is

pub returns-then-exports_constant : goal.returns-then-exports_constant
returns-then-exports_constant c = ap (λ t. if t then wrong.Exported c.in-Some.name else wrong.Sig c.args.fault) (sym c.if-exports_constant.true) ∙
    blamed_some (exports_constant c.args.self.now.own.now) c.args.self.now.source.now c.args.fault c.differing.result c.differing.ensures
    c.in-Some.name c.in-Some.is c.exports_constant.result c.exports_constant.ensures

pub returns : goal.returns
returns c = ap (λ t. if t then wrong.Exported c.in-Some.name else wrong.Sig c.args.fault) (sym c.if-exports_constant.false) ∙
    blamed_some (exports_constant c.args.self.now.own.now) c.args.self.now.source.now c.args.fault c.differing.result c.differing.ensures
    c.in-Some.name c.in-Some.is c.exports_constant.result c.exports_constant.ensures
