use Rattle.std.proofs.Common.{sym, ap, ◌∙◌}
use Rattle.std.specs.Prelude.{is_some}
use Rattle.lp_sig.specs.ModuleFaults.{exports_constant}
use Rattle.lp_sig.proofs.Refusing.{standard_constant_kept, constant_kept, constant_found}
use Rattle.lp_sig.proofs.module_lines.ModuleLines.exports_constant.Goals as goal

pub returns-then-is_some : goal.returns-then-is_some
returns-then-is_some c =
    standard_constant_kept c.args.self.now.own.now c.spelled_at-word.result.now (ap is_some (sym c.standard_constant.ensures) ∙ sym c.is_some.ensures
    ∙ c.if-is_some.true) ∙ ap (exports_constant c.args.self.now.own.now) c.spelled_at-word.ensures

pub returns : goal.returns
returns c =
    constant_kept c.args.self.now.own.now c.spelled_at-word.result.now c.is_some-2.result (ap is_some (sym c.standard_constant.ensures) ∙ sym c.is_some.ensures ∙ c.if-is_some.false)
    (c.is_some-2.ensures ∙ constant_found c.spelled_at-word.result.now c.args.self.now.own.now.constants.items c.declared.result c.declared.ensures) ∙
    ap (exports_constant c.args.self.now.own.now) c.spelled_at-word.ensures
