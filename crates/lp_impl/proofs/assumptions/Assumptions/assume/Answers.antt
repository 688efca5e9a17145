use Rattle.std.proofs.Common.{◌∙◌, sym, subst}
use Rattle.lp_lemmas.proofs.Results.{on_err_always}
use Rattle.lp_impl.specs.Chains.{AreOpen}
use Rattle.lp_impl.proofs.Chained.{said_on}
use Rattle.lp_impl.proofs.assumptions.Assumptions.assume.Goals as goal

pub returns-in_err-begun-clause-unchanged : goal.returns-in_err-begun-clause-unchanged
returns-in_err-begun-clause-unchanged c = on_err_always c.from_residual.result (λ ss h. said_on _ _ c.put.ensures.kept _ ss (subst (λ z. AreOpen z ss) (sym c.self.view_is) h))

pub returns-in_err-self-inside-clause-unchanged : goal.returns-in_err-self-inside-clause-unchanged
returns-in_err-self-inside-clause-unchanged c = on_err_always c.from_residual-in_err-self-inside.result (λ ss h. said_on _ _ c.put_all.ensures.kept _ ss (said_on _ _ c.put.ensures.kept _ ss (subst (λ z. AreOpen z ss) (sym c.self.view_is) h)))
