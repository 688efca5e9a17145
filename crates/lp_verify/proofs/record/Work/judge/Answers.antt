use Rattle.std.proofs.Common.{◌∙◌, Some, None, sym, subst}
use Rattle.lp_code.specs.Rules.{breaks_type, breaks_head}
use Rattle.lp_verify.specs.Named.{was_named}
use Rattle.lp_verify.specs.inner.Indices.{store}
use Rattle.lp_verify.specs.inner.Told.{told, IsFirst, AreKept, ArePassed}
use Rattle.lp_verify.specs.inner.Made.{term_made, IsMadeBy}
use Rattle.lp_verify.specs.inner.At.{kept_in}
use Rattle.lp_verify.proofs.TermsMade.{matched_some, matched_none, knows_later, ill_broken, not_ill}
use Rattle.lp_verify.proofs.record.Work.judge.Goals as goal

pub returns-in-Some-clause-first : goal.returns-in-Some-clause-first
returns-in-Some-clause-first c = λ small few h s k.
    let i = c.args.instr.now in
    matched_some _ _ c.broken_before-before.result c.in-Some.rule c.in-Some.is (c.broken_before-before.ensures (c.as_slice.ensures.value ∙ c.in_ok-types.ensures) (c.as_slice-2.ensures.value ∙ c.in_ok-terms.ensures) (breaks_type h s i) (breaks_head h s i))

pub returns-then-ill-clause-first : goal.returns-then-ill-clause-first
returns-then-ill-clause-first c = λ small few h s k.
    let i = c.args.instr.now in
    let kept : AreKept (told c.args.self.now c.args.shared.now.lists (was_named c.args.shared.now.named) c.args.whole (breaks_type h s i) (breaks_head h s i) i) =
    matched_none _ _ c.broken_before-before.result c.in_default.is (c.broken_before-before.ensures (c.as_slice.ensures.value ∙ c.in_ok-types.ensures) (c.as_slice-2.ensures.value ∙ c.in_ok-terms.ensures) (breaks_type h s i) (breaks_head h s i)) in
    let made = c.in_ok-typed.ensures.made h s k kept.1 in
    (kept, ill_broken (store c.typed.new.types c.typed.new.lists) (breaks_type h s i) (term_made h s i) c.in_ok-typed.typed (sym c.is_ill-ill.ensures ∙ c.if-ill.true) made.1)

pub returns-in-Some-2-clause-first : goal.returns-in-Some-2-clause-first
returns-in-Some-2-clause-first c = λ small few h s k.
    let i = c.args.instr.now in
    let t = breaks_type h s i in
    let read = c.as_slice-2.ensures.value ∙ c.in_ok-terms.ensures in
    let kept : AreKept (told c.args.self.now c.args.shared.now.lists (was_named c.args.shared.now.named) c.args.whole t (breaks_head h s i) i) =
    matched_none _ _ c.broken_before-before.result c.in_default.is (c.broken_before-before.ensures (c.as_slice.ensures.value ∙ c.in_ok-types.ensures) read t (breaks_head h s i)) in
    let made = c.in_ok-typed.ensures.made h s k kept.1 in
    let passed : ArePassed (told c.args.self.now c.typed.new.lists (was_named c.args.shared.now.named) c.args.whole t (breaks_head h s i) i) = (kept, not_ill (store c.typed.new.types c.typed.new.lists) t (term_made h s i) c.in_ok-typed.typed (sym c.is_ill-ill.ensures ∙ c.if-ill.false) made.1) in
    subst (λ l. IsFirst (told c.args.self.now l (was_named c.args.shared.now.named) c.args.whole t (breaks_head h s i) i) (Some c.in-Some-2.rule)) (sym c.broken_behind.ensures.lists)
    (subst (IsFirst (told c.args.self.now c.typed.new.lists (was_named c.args.shared.now.named) c.args.whole t (breaks_head h s i) i)) c.in-Some-2.is
    (c.in_ok-rule.ensures.first small few (c.as_slice-3.ensures.value ∙ c.in_ok-terms.ensures) t h s
    (knows_later (kept_in c.args.shared.now) (store c.typed.new.types c.typed.new.lists) c.args.self.now h s
    (c.in_ok-typed.ensures.grow, c.in_ok-typed.ensures.types) made.0 k) passed))

pub returns-clause-first : goal.returns-clause-first
returns-clause-first c = λ small few h s k.
    let i = c.args.instr.now in
    let t = breaks_type h s i in
    let read = c.as_slice-2.ensures.value ∙ c.in_ok-terms.ensures in
    let kept : AreKept (told c.args.self.now c.args.shared.now.lists (was_named c.args.shared.now.named) c.args.whole t (breaks_head h s i) i) =
    matched_none _ _ c.broken_before-before.result c.in_default.is (c.broken_before-before.ensures (c.as_slice.ensures.value ∙ c.in_ok-types.ensures) read t (breaks_head h s i)) in
    let made = c.in_ok-typed.ensures.made h s k kept.1 in
    let passed : ArePassed (told c.args.self.now c.typed.new.lists (was_named c.args.shared.now.named) c.args.whole t (breaks_head h s i) i) = (kept, not_ill (store c.typed.new.types c.typed.new.lists) t (term_made h s i) c.in_ok-typed.typed (sym c.is_ill-ill.ensures ∙ c.if-ill.false) made.1) in
    subst (λ l. IsFirst (told c.args.self.now l (was_named c.args.shared.now.named) c.args.whole t (breaks_head h s i) i) None) (sym c.broken_behind.ensures.lists)
    (subst (IsFirst (told c.args.self.now c.typed.new.lists (was_named c.args.shared.now.named) c.args.whole t (breaks_head h s i) i)) c.in-None.is
    (c.in_ok-rule.ensures.first small few (c.as_slice-3.ensures.value ∙ c.in_ok-terms.ensures) t h s
    (knows_later (kept_in c.args.shared.now) (store c.typed.new.types c.typed.new.lists) c.args.self.now h s
    (c.in_ok-typed.ensures.grow, c.in_ok-typed.ensures.types) made.0 k) passed))

pub returns-clause-made : goal.returns-clause-made
returns-clause-made c = (
  sym c.is_ill-ill.ensures ∙ c.if-ill.false,
  subst (λ m. IsMadeBy (kept_in c.args.shared.now) m c.args.self.now c.args.instr.now c.in_ok-typed.typed) (sym (λ j. store (c.broken_behind.ensures.types j) (c.broken_behind.ensures.lists j))) c.in_ok-typed.ensures.made,
)
