use Rattle.std.proofs.Common.{refl, inl, inr, arith}
use Rattle.lp_cert.proofs.focus.side_of.Goals as goal

pub returns-then-which-eq0-clause-some : goal.returns-then-which-eq0-clause-some
returns-then-which-eq0-clause-some c = inl (omega (arith, c.if-which-eq0.true), refl)

pub returns-then-which-eq1-clause-some : goal.returns-then-which-eq1-clause-some
returns-then-which-eq1-clause-some c = inr (omega (arith, c.if-which-eq1.true), refl)

pub returns-clause-none : goal.returns-clause-none
returns-clause-none c = λ e q. elim q [ inl a ↦ c.if-which-eq0.false a | inr a ↦ c.if-which-eq1.false a ]
