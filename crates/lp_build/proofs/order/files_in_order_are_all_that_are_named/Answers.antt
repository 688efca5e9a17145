use Rattle.std.proofs.Common.{inl}
use Rattle.lp_build.proofs.Ordering.{asked_before, first_is, named_there, once, own_first}
use Rattle.lp_build.proofs.order.files_in_order_are_all_that_are_named.Goals as goal

pub returns-clause-begins : goal.returns-clause-begins
returns-clause-begins c = λ all root s h. first_is h

pub returns-clause-first : goal.returns-clause-first
returns-clause-first c = λ all root s h. own_first root h

pub returns-clause-named : goal.returns-clause-named
returns-clause-named c = λ all root s h f there n named. named_there h f there n named

pub returns-clause-once : goal.returns-clause-once
returns-clause-once c = λ all root files left h i j f g at to e. once h i j f g at to e

pub returns-clause-asked : goal.returns-clause-asked
returns-clause-asked c = λ all root files left h i f at. asked_before root h (λ n k. inl k) i f at
