use Rattle.lp_plain.proofs.Scoped.{get_none}
use Rattle.std.specs.Prelude.{nat_eq}
use Rattle.std.specs.HashMap.{get}
use Rattle.std.proofs.Common.{arith, subst, sym}
use Rattle.std.proofs.lemmas.Option.{slice_get_within}
use Rattle.lp_plain.specs.Assuming.{links}
use Rattle.lp_plain.specs.Candidates.{IsChain, first_for, nexts}
use Rattle.lp_plain.proofs.Remains.{after_assumed as assumed_less, after_program as program_less}
use Rattle.lp_plain.proofs.ListReads.{read_at}
use Rattle.lp_plain.proofs.Indexes.{assumed_outside, program_outside, after_assumed, after_program}
use Rattle.lp_plain.proofs.candidates.candidate_after.Goals as goal

pub returns-in-Some-clause-next : goal.returns-in-Some-clause-next
returns-in-Some-clause-next c =
    let s = read_at c.args.assumptions.now.items c.deref.result.now c.in-Assumed.number c.in-Some.assumption.now _ c.deref.ensures.value c.in-Some.ensures.lookup.3.0 c.in-Some.ensures.lookup.1 in
    λ left l. after_assumed c.args.bank.now c.args.rules.now.items c.args.assumptions.now.items
    (first_for (λ k. get nat_eq c.args.index.now k) c.args.call.now.head) c.args.call.now.key c.assumed_or_first.result c.args.candidate c.in-Assumed.number
    c.in-Some.assumption.now left c.in-Assumed.is s (λ ns ks h d. c.assumed_or_first.ensures.left _ ns ks (subst (λ z. IsChain (links c.args.assumptions.now.items) z ns) (sym c.older-before.ensures.is) h) d) l

pub returns-in-Some-get-clause-next : goal.returns-in-Some-get-clause-next
returns-in-Some-get-clause-next c =
    let s = read_at c.args.rules.now.items c.deref-in-Program.result.now c.in-Program.number c.in-Some-get.rule.now _ c.deref-in-Program.ensures.value
    c.in-Some-get.ensures.lookup.3.0 c.in-Some-get.ensures.lookup.1 in
    λ left l. after_program c.args.bank.now c.args.rules.now.items _ (first_for (λ k. get nat_eq c.args.index.now k) c.args.call.now.head)
    c.args.call.now.key c.program_candidate.result c.args.candidate c.in-Program.number c.in-Some-get.rule.now left c.in-Program.is s (λ ks h. c.program_candidate.ensures.left _ _ ks (subst (λ z. IsChain (nexts c.args.rules.now.items) z ks) (sym c.later-behind.ensures) h)) l

pub returns-in_default-clause-next : goal.returns-in_default-clause-next
returns-in_default-clause-next c = λ left l.
    absurd (assumed_outside c.args.bank.now c.args.rules.now.items c.args.assumptions.now.items
    (first_for (λ k. get nat_eq c.args.index.now k) c.args.call.now.head) c.args.call.now.key c.args.candidate c.in-Assumed.number left
    c.in-Assumed.is
    (get_none c.args.assumptions.now.items c.deref.result.now c.in-Assumed.number c.deref.ensures.value c.in_default.ensures.lookup.3) l)

pub returns-in_default-get-clause-next : goal.returns-in_default-get-clause-next
returns-in_default-get-clause-next c = λ left l.
    absurd (program_outside c.args.bank.now c.args.rules.now.items _ (first_for (λ k. get nat_eq c.args.index.now k) c.args.call.now.head)
    c.args.call.now.key c.args.candidate c.in-Program.number left c.in-Program.is
    (get_none c.args.rules.now.items c.deref-in-Program.result.now c.in-Program.number c.deref-in-Program.ensures.value c.in_default-get.ensures.lookup.3) l)

pub returns-in-Some-clause-less : goal.returns-in-Some-clause-less
returns-in-Some-clause-less c =
    let s = read_at c.args.assumptions.now.items c.deref.result.now c.in-Assumed.number c.in-Some.assumption.now _ c.deref.ensures.value c.in-Some.ensures.lookup.3.0 c.in-Some.ensures.lookup.1 in
    let w = slice_get_within c.args.assumptions.now.items c.in-Assumed.number c.in-Some.assumption.now s in
    assumed_less c.args.candidate c.in-Assumed.number c.assumed_or_first.result c.in-Some.assumption.now.older c.older-before.result c.in-Assumed.is
    (omega (arith, w, c.args.assumptions.now.ok)) c.older-before.ensures.is c.assumed_or_first.ensures.ranks

pub returns-in-Some-get-clause-less : goal.returns-in-Some-get-clause-less
returns-in-Some-get-clause-less c =
    let s = read_at c.args.rules.now.items c.deref-in-Program.result.now c.in-Program.number c.in-Some-get.rule.now _ c.deref-in-Program.ensures.value
    c.in-Some-get.ensures.lookup.3.0 c.in-Some-get.ensures.lookup.1 in
    let w = slice_get_within c.args.rules.now.items c.in-Program.number c.in-Some-get.rule.now s in
    program_less c.args.candidate c.in-Program.number c.program_candidate.result c.in-Some-get.rule.now.next c.later-behind.result c.in-Program.is
    (omega (arith, w, c.args.rules.now.ok)) c.later-behind.ensures c.program_candidate.ensures.ranks
