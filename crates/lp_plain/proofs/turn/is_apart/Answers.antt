use Rattle.std.proofs.Common.{refl, inl, inr, subst, sym}
use Rattle.lp_model.specs.Connected.{connective_in}
use Rattle.lp_plain.specs.AtRunTime.{IsAtomOrNoForm}
use Rattle.lp_plain.proofs.turn.is_apart.Goals as goal

pub returns-in-Cut-clause-alone : goal.returns-in-Cut-clause-alone
returns-in-Cut-clause-alone c = λ e b. subst (λ k. IsAtomOrNoForm (connective_in b k)) (sym c.in-Cut.is) (inr tt)

pub returns-in-Implies-clause-alone : goal.returns-in-Implies-clause-alone
returns-in-Implies-clause-alone c = λ e b. subst (λ k. IsAtomOrNoForm (connective_in b k)) (sym c.in-Implies.is) (inr tt)

pub returns-in-Not-clause-alone : goal.returns-in-Not-clause-alone
returns-in-Not-clause-alone c = λ e b. subst (λ k. IsAtomOrNoForm (connective_in b k)) (sym c.in-Not.is) (inr tt)

pub returns-in-Atomic-clause-alone : goal.returns-in-Atomic-clause-alone
returns-in-Atomic-clause-alone c = λ e b. subst (λ k. IsAtomOrNoForm (connective_in b k)) (sym c.in-Atomic.is) (inl refl)
