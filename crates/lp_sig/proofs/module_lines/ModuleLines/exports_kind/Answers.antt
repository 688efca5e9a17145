use Rattle.std.proofs.Common.{sym, ap, ◌∙◌}
use Rattle.std.specs.Prelude.{is_some}
use Rattle.lp_sig.specs.ModuleFaults.{exports_kind}
use Rattle.lp_sig.proofs.Refusing.{standard_kept, kind_kept, abbreviation_kept, abbreviation_found}
use Rattle.lp_sig.proofs.module_lines.ModuleLines.exports_kind.Goals as goal

pub returns-then-is_some : goal.returns-then-is_some
returns-then-is_some c =
    standard_kept c.args.self.now.own.now c.spelled_at-word.result.now (ap is_some (sym c.standard_kind.ensures) ∙ sym c.is_some.ensures ∙
    c.if-is_some.true) ∙ ap (exports_kind c.args.self.now.own.now) c.spelled_at-word.ensures

pub returns-then-is_some-2 : goal.returns-then-is_some-2
returns-then-is_some-2 c =
    kind_kept c.args.self.now.own.now c.spelled_at-word.result.now (ap is_some (sym c.standard_kind.ensures) ∙ sym c.is_some.ensures ∙ c.if-is_some.false)
    (ap is_some (sym c.kind.ensures) ∙ sym c.is_some-2.ensures ∙ c.if-is_some-2.true) ∙ ap (exports_kind c.args.self.now.own.now) c.spelled_at-word.ensures

pub returns : goal.returns
returns c =
    abbreviation_kept c.args.self.now.own.now c.spelled_at-word.result.now (ap is_some (sym c.standard_kind.ensures) ∙ sym c.is_some.ensures ∙ c.if-is_some.false) c.is_some-3.result
    (ap is_some (sym c.kind.ensures) ∙ sym c.is_some-2.ensures ∙ c.if-is_some-2.false)
    (c.is_some-3.ensures ∙ abbreviation_found c.spelled_at-word.result.now c.args.self.now.own.now.abbreviations.items c.abbreviation.result
    c.abbreviation.ensures) ∙ ap (exports_kind c.args.self.now.own.now) c.spelled_at-word.ensures
