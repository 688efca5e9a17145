use Rattle.std.proofs.Common.{◌≤◌, ◌-◌, ◌^◌, subst}
use Rattle.std.specs.Prelude.{IfSome}
use Rattle.lp_plain.specs.inner.Remaining.{program_rank}
use Rattle.lp_plain.proofs.Indexes.{program_some, program_none}
use Rattle.lp_plain.proofs.candidates.program_candidate.Goals as goal

pub returns-in-Some-clause-left : goal.returns-in-Some-clause-left
returns-in-Some-clause-left c = λ older first ks h. program_some c.args.bank.now c.args.rules.now.items older first c.program_from.result c.args.key c.in-Some.number ks c.in-Some.is (c.program_from.ensures.left ks h)

pub returns-in-None-clause-left : goal.returns-in-None-clause-left
returns-in-None-clause-left c = λ older first ks h. program_none c.args.bank.now c.args.rules.now.items older first c.program_from.result c.args.key ks c.in-None.is (c.program_from.ensures.left ks h)

pub returns-in-Some-clause-ranks : goal.returns-in-Some-clause-ranks
returns-in-Some-clause-ranks c = subst (λ o. IfSome o (λ k. 2 ^ 64 - k ≤ program_rank c.args.from)) c.in-Some.is c.program_from.ensures.ranks
