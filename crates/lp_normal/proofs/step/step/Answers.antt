use Rattle.std.proofs.Common.{arith, ap, sym, subst, inl, inr, reverse}
use Rattle.lp_lemmas.proofs.Results.{passed_up}
use Rattle.lp_normal.specs.Counted.{IsOver}
use Rattle.lp_normal.specs.inner.Met.{inner_met, Passes}
use Rattle.lp_normal.specs.inner.Work.{inner_work}
use Rattle.lp_normal.specs.inner.Kinds.{is_in_goals, IsNested}
use Rattle.lp_normal.proofs.step.step.Goals as goal

pub goals_move-requires-clause-list : goal.goals_move-requires-clause-list
goals_move-requires-clause-list c = rw c.in-Goals.is at c.requires.inner

pub clauses_move-requires-clause-list : goal.clauses_move-requires-clause-list
clauses_move-requires-clause-list c = rw c.in-Clauses.is at c.requires.inner

pub returns-in_ok-next-in-Goals-clause-comes : goal.returns-in_ok-next-in-Goals-clause-comes
returns-in_ok-next-in-Goals-clause-comes c = λ whole h. c.in_ok-next-in-Goals.ensures.comes whole (rw c.in-Goals.is at h)

pub returns-in_ok-next-in-Clauses-clause-comes : goal.returns-in_ok-next-in-Clauses-clause-comes
returns-in_ok-next-in-Clauses-clause-comes c = λ whole h. c.in_ok-next-in-Clauses.ensures.comes whole (rw c.in-Clauses.is at h)

pub returns-in_ok-next-in-Goals-clause-met : goal.returns-in_ok-next-in-Goals-clause-met
returns-in_ok-next-in-Goals-clause-met c = λ b h. omega (arith, h, ap (inner_met b) c.in-Goals.is, c.in_ok-next-in-Goals.ensures.met b)

pub returns-in_ok-next-in-Clauses-clause-met : goal.returns-in_ok-next-in-Clauses-clause-met
returns-in_ok-next-in-Clauses-clause-met c = λ b h. c.in_ok-next-in-Clauses.ensures.met b (omega (arith, h, ap (inner_met b) c.in-Clauses.is))

pub returns-in_err-next-in-Clauses-clause-over : goal.returns-in_err-next-in-Clauses-clause-over
returns-in_err-next-in-Clauses-clause-over c =
    passed_up c.from_residual-in_err-next-in-Clauses.result c.in_err-next-in-Clauses.field-0.0 (IsOver (Passes c.args.bank.now c.args.inner c.args.frames.now.items c.args.count.now))
    c.from_residual-in_err-next-in-Clauses.ensures.1
    (subst (λ z. IsOver (Passes c.args.bank.now z c.args.frames.now.items c.args.count.now) c.in_err-next-in-Clauses.field-0.0) (sym c.in-Clauses.is) c.in_err-next-in-Clauses.ensures.over)

pub returns-in_ok-next-in-Goals-clause-less : goal.returns-in_ok-next-in-Goals-clause-less
returns-in_ok-next-in-Goals-clause-less c = inr (λ d x. omega (arith, c.in_ok-next-in-Goals.ensures.less d x, ap (inner_work d) c.in-Goals.is))

pub returns-in_ok-next-in-Clauses-clause-less : goal.returns-in_ok-next-in-Clauses-clause-less
returns-in_ok-next-in-Clauses-clause-less c =
    elim c.in_ok-next-in-Clauses.ensures.less [
      | inl l ↦ inl l
      | inr f ↦ inr (λ d x. omega (arith, f d x, ap (inner_work d) c.in-Clauses.is))
    ]

pub returns-in_ok-next-in-Goals-clause-kind : goal.returns-in_ok-next-in-Goals-clause-kind
returns-in_ok-next-in-Goals-clause-kind c = λ k h. c.in_ok-next-in-Goals.ensures.kind k (subst (λ i. IsNested k (is_in_goals i) (reverse c.args.frames.now.items)) c.in-Goals.is h)

pub returns-in_ok-next-in-Clauses-clause-kind : goal.returns-in_ok-next-in-Clauses-clause-kind
returns-in_ok-next-in-Clauses-clause-kind c = λ k h. c.in_ok-next-in-Clauses.ensures.kind k (subst (λ i. IsNested k (is_in_goals i) (reverse c.args.frames.now.items)) c.in-Clauses.is h)
