use Rattle.std.proofs.Common.{◌∙◌, ap, sym}
use Rattle.std.specs.Prelude.{◌||◌}
use Rattle.lp_lemmas.proofs.Booleans.{or_false_right}
use Rattle.lp_code.specs.Rules.{breaks_head}
use Rattle.lp_verify.proofs.Joined.{headed, not_headed}
use Rattle.lp_verify.proofs.record.Work.broken_behind.Goals as goal

pub returns-then-index-clause-first : goal.returns-then-index-clause-first
returns-then-index-clause-first c = λ small few read t h s k p. (p, sym (c.breaks_index-index.ensures read) ∙ c.if-index.true)

pub returns-then-term-clause-first : goal.returns-then-term-clause-first
returns-then-term-clause-first c = λ small few read t h s k p. (p, sym (c.breaks_index-index.ensures read) ∙ c.if-index.false, sym c.breaks_term-term.ensures ∙ c.if-term.true)

pub returns-then-order-clause-first : goal.returns-then-order-clause-first
returns-then-order-clause-first c = λ small few read t h s k p. (p, sym (c.breaks_index-index.ensures read) ∙ c.if-index.false, sym c.breaks_term-term.ensures ∙ c.if-term.false, sym c.breaks_order-order.ensures ∙ c.if-order.true)

pub returns-then-whole-clause-first : goal.returns-then-whole-clause-first
returns-then-whole-clause-first c = λ small few read t h s k p. (p, sym (c.breaks_index-index.ensures read) ∙ c.if-index.false, sym c.breaks_term-term.ensures ∙ c.if-term.false, sym c.breaks_order-order.ensures ∙ c.if-order.false, ap (λ b. b || breaks_head h s c.args.instr.now) c.if-whole.true)

pub returns-then-head-clause-first : goal.returns-then-head-clause-first
returns-then-head-clause-first c = λ small few read t h s k p. (
  p,
  sym (c.breaks_index-index.ensures read) ∙ c.if-index.false,
  sym
      c.breaks_term-term.ensures ∙ c.if-term.false,
  sym c.breaks_order-order.ensures ∙ c.if-order.false,
  headed c.args.whole.head
      (breaks_head h s c.args.instr.now) (sym (c.breaks_head-head.ensures c.args.shared.now.lists h s k
      (or_false_right c.args.whole.order _ (sym c.breaks_order-order.ensures ∙ c.if-order.false))) ∙ c.if-head.true),
)

pub returns-then-block-clause-first : goal.returns-then-block-clause-first
returns-then-block-clause-first c = λ small few read t h s k p. (
  p,
  sym (c.breaks_index-index.ensures read) ∙ c.if-index.false,
  sym
      c.breaks_term-term.ensures ∙ c.if-term.false,
  sym c.breaks_order-order.ensures ∙ c.if-order.false,
  not_headed c.args.whole.head
      (breaks_head h s c.args.instr.now) c.if-whole.false (sym (c.breaks_head-head.ensures c.args.shared.now.lists h s k
      (or_false_right c.args.whole.order _ (sym c.breaks_order-order.ensures ∙ c.if-order.false))) ∙ c.if-head.false),
  sym
      (c.breaks_block-block.ensures small few) ∙ c.if-block.true,
)

pub returns-then-clause-clause-first : goal.returns-then-clause-clause-first
returns-then-clause-clause-first c = λ small few read t h s k p. (
  p,
  sym (c.breaks_index-index.ensures read) ∙ c.if-index.false,
  sym
      c.breaks_term-term.ensures ∙ c.if-term.false,
  sym c.breaks_order-order.ensures ∙ c.if-order.false,
  not_headed c.args.whole.head
      (breaks_head h s c.args.instr.now) c.if-whole.false (sym (c.breaks_head-head.ensures c.args.shared.now.lists h s k
      (or_false_right c.args.whole.order _ (sym c.breaks_order-order.ensures ∙ c.if-order.false))) ∙ c.if-head.false),
  sym
      (c.breaks_block-block.ensures small few) ∙ c.if-block.false,
  sym c.in_ok-clause.ensures.clause ∙ c.if-clause.true,
)

pub returns-then-whole-2-clause-first : goal.returns-then-whole-2-clause-first
returns-then-whole-2-clause-first c = λ small few read t h s k p. (
  p,
  sym (c.breaks_index-index.ensures read) ∙ c.if-index.false,
  sym
      c.breaks_term-term.ensures ∙ c.if-term.false,
  sym c.breaks_order-order.ensures ∙ c.if-order.false,
  not_headed c.args.whole.head
      (breaks_head h s c.args.instr.now) c.if-whole.false (sym (c.breaks_head-head.ensures c.args.shared.now.lists h s k
      (or_false_right c.args.whole.order _ (sym c.breaks_order-order.ensures ∙ c.if-order.false))) ∙ c.if-head.false),
  sym
      (c.breaks_block-block.ensures small few) ∙ c.if-block.false,
  sym c.in_ok-clause.ensures.clause ∙ c.if-clause.false,
  c.if-whole-2.true,
)

pub returns-clause-first : goal.returns-clause-first
returns-clause-first c = λ small few read t h s k p. (
  p,
  sym (c.breaks_index-index.ensures read) ∙ c.if-index.false,
  sym c.breaks_term-term.ensures ∙
      c.if-term.false,
  sym c.breaks_order-order.ensures ∙ c.if-order.false,
  not_headed c.args.whole.head (breaks_head h s c.args.instr.now)
      c.if-whole.false (sym (c.breaks_head-head.ensures c.args.shared.now.lists h s k
      (or_false_right c.args.whole.order _ (sym c.breaks_order-order.ensures ∙ c.if-order.false))) ∙ c.if-head.false),
  sym
      (c.breaks_block-block.ensures small few) ∙ c.if-block.false,
  sym c.in_ok-clause.ensures.clause ∙ c.if-clause.false,
  c.if-whole-2.false,
)
