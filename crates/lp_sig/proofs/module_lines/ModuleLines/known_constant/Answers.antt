use Rattle.std.proofs.Common.{refl, sym, ap, ◌∙◌}
use Rattle.lp_sig.specs.Said.{is_among}
use Rattle.lp_sig.specs.ModuleFaults.{is_exported, its_fault}
use Rattle.lp_sig.proofs.module_lines.ModuleLines.known_constant.Goals as goal

pub returns-then-exports_constant-clause-refused : goal.returns-then-exports_constant-clause-refused
returns-then-exports_constant-clause-refused c = λ known h. is_exported (sym c.exports_constant.ensures ∙ c.if-exports_constant.true) refl

pub returns-then-not-contains-clause-refused : goal.returns-then-not-contains-clause-refused
returns-then-not-contains-clause-refused c = λ known h. its_fault (sym c.exports_constant.ensures ∙ c.if-exports_constant.false)
    (ap (λ w. is_among w known) (sym c.spelled_at.ensures) ∙ sym (h c.spelled_at.result.now) ∙ sym c.contains.ensures ∙ c.if-not-contains.true, refl)

pub returns-clause-taken : goal.returns-clause-taken
returns-clause-taken c = λ known h. (
  sym c.exports_constant.ensures ∙ c.if-exports_constant.false,
  ap (λ w. is_among w known) (sym c.spelled_at.ensures) ∙ sym (h c.spelled_at.result.now) ∙ sym c.contains.ensures ∙ c.if-not-contains.false,
)
