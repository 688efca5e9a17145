use Rattle.std.proofs.Common.{inl, inr}
use Rattle.lp_cert.proofs.form.without_form.Goals as goal

pub returns-then-is_deep-clause-deep : goal.returns-then-is_deep-clause-deep
returns-then-is_deep-clause-deep c = λ e. inl (c.is_deep.ensures.yes c.if-is_deep.true)

pub returns-then-is_deep-2-clause-deep : goal.returns-then-is_deep-2-clause-deep
returns-then-is_deep-2-clause-deep c = λ e. inr (c.is_deep-2.ensures.yes c.if-is_deep-2.true)

pub returns-clause-differ : goal.returns-clause-differ
returns-clause-differ c = λ e. (c.is_deep.ensures.no c.if-is_deep.false, c.is_deep-2.ensures.no c.if-is_deep-2.false)
