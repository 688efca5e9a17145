use Rattle.std.proofs.Common.{sym, ap, ◌∙◌}
use Rattle.std.specs.Prelude.{if◌then◌else◌}
use Rattle.lp_sig.specs.ModuleFaults.{exports_kind}
use Rattle.lp_sig.specs.declared.module_fault.ModuleSigFault.TheVariants as wrong
use Rattle.lp_sig.proofs.Refusing.{blamed_none, blamed_some}
use Rattle.lp_sig.proofs.module_lines.ModuleLines.kinds_blamed.Goals as goal

pub returns-in_default : goal.returns-in_default
returns-in_default c = blamed_none (exports_kind c.args.self.now.own.now) c.args.self.now.source.now c.args.fault c.differing.result c.differing.ensures c.in_default.is

pub returns-then-exports_kind : goal.returns-then-exports_kind
returns-then-exports_kind c = ap (λ t. if t then wrong.Exported c.in-Some.name else wrong.Sig c.args.fault) (sym c.if-exports_kind.true) ∙
    blamed_some (exports_kind c.args.self.now.own.now) c.args.self.now.source.now c.args.fault c.differing.result c.differing.ensures c.in-Some.name
    c.in-Some.is c.exports_kind.result c.exports_kind.ensures

pub returns : goal.returns
returns c = ap (λ t. if t then wrong.Exported c.in-Some.name else wrong.Sig c.args.fault) (sym c.if-exports_kind.false) ∙
    blamed_some (exports_kind c.args.self.now.own.now) c.args.self.now.source.now c.args.fault c.differing.result c.differing.ensures c.in-Some.name
    c.in-Some.is c.exports_kind.result c.exports_kind.ensures
