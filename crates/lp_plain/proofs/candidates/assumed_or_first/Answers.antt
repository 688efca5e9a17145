use Rattle.std.proofs.Common.{subst, sym}
use Rattle.std.specs.Prelude.{nat_eq}
use Rattle.std.specs.HashMap.{get}
use Rattle.lp_plain.specs.Candidates.{IsChain, nexts, first_for}
use Rattle.lp_plain.proofs.Indexes.{assumed_some, assumed_none}
use Rattle.lp_plain.proofs.Remains.{assumed_found, program_found}
use Rattle.lp_plain.proofs.candidates.assumed_or_first.Goals as goal

pub returns-in-Some-clause-left : goal.returns-in-Some-clause-left
returns-in-Some-clause-left c = λ older ns ks h d. assumed_some c.args.bank.now c.args.rules.now.items older (first_for (λ k. get nat_eq c.args.index.now k) c.args.call.now.head) c.args.assumed c.args.call.now.key c.in-Some.number ns ks c.in-Some.is h d

pub returns-in-None-clause-left : goal.returns-in-None-clause-left
returns-in-None-clause-left c = λ older ns ks h d.
    assumed_none c.args.bank.now c.args.rules.now.items older (first_for (λ k. get nat_eq c.args.index.now k) c.args.call.now.head) c.args.assumed c.args.call.now.key c.program_candidate.result ns ks c.in-None.is h
    (c.program_candidate.ensures.left older (first_for (λ k. get nat_eq c.args.index.now k) c.args.call.now.head) ks (subst (λ z. IsChain (nexts c.args.rules.now.items) z ks) (sym c.first_rule.ensures) d))

pub returns-in-Some-clause-ranks : goal.returns-in-Some-clause-ranks
returns-in-Some-clause-ranks c = assumed_found c.in-Some.number c.args.assumed c.in-Some.is

pub returns-in-None-clause-ranks : goal.returns-in-None-clause-ranks
returns-in-None-clause-ranks c = program_found c.program_candidate.result c.args.assumed _ c.in-None.is c.program_candidate.ensures.ranks
