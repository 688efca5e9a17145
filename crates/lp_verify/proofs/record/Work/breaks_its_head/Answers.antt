use Rattle.std.proofs.Common.{◌∙◌, ap, sym, length}
use Rattle.std.specs.Prelude.{◌&&◌, is_some, not, nat_eq, nat_lt}
use Rattle.lp_calculus.specs.Typing.{o_type}
use Rattle.lp_code.specs.Rules.{head_count, breaks_head}
use Rattle.lp_code.specs.Steps.{head_built}
use Rattle.lp_code.specs.Symbolic.{equal_types, result_type}
use Rattle.lp_verify.proofs.HeadRules.{in_head_at, not_both, not_below, head_kept}
use Rattle.lp_verify.proofs.record.Work.breaks_its_head.Goals as goal

pub returns-in-Neck : goal.returns-in-Neck
returns-in-Neck c = λ l h s k order.
    let p = is_some h.self.head in
    ap (λ b. p && not b) (c.is_complete.ensures h s k.of_head.constants.basics k.of_head.head) ∙ not_both p (nat_eq (length s.head_types) (head_count h)) (equal_types (result_type (head_built h s).type (length s.head_arguments)) o_type) ∙ ap (breaks_head h s) (sym c.in-Neck.is)

pub returns-in-GetType : goal.returns-in-GetType
returns-in-GetType c = λ l h s k order.
    let p = is_some h.self.head in
    ap (λ b. p && not b) (c.has_type.ensures ∙ (λ j. nat_lt (c.from.ensures j) (k.of_head.head.count j))) ∙ not_below p c.in-GetType.number (head_count h) ∙ ap (breaks_head h s) (sym c.in-GetType.is)

pub returns-in-Get : goal.returns-in-Get
returns-in-Get c = λ l h s k order.
    let p = is_some h.self.head in
    ap (λ b. p && b) (c.is_new_variable.ensures l h s k (in_head_at _ _ _ _ _ c.args.instr.now c.in-Get.is order)) ∙ ap (breaks_head h s) (sym c.in-Get.is)

pub returns-in_default : goal.returns-in_default
returns-in_default c = λ l h s k order. head_kept h s c.args.instr.now c.in_default.not-GetType c.in_default.not-Get c.in_default.not-Neck
