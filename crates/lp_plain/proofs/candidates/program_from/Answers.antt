use Rattle.std.proofs.Common.{sym, ◌∙◌, refl, arith, subst}
use Rattle.std.proofs.lemmas.Option.{slice_get_within}
use Rattle.lp_plain.specs.Candidates.{IsChain, nexts}
use Rattle.lp_plain.proofs.Remains.{found_rank, further_rank}
use Rattle.lp_plain.proofs.Chains.{all_passed, one_passed}
use Rattle.lp_plain.proofs.Scoped.{get_none}
use Rattle.lp_plain.proofs.ListReads.{read_at}
use Rattle.lp_plain.proofs.Indexes.{left_none, left_outside, left_some, left_further}
use Rattle.lp_plain.proofs.candidates.program_from.Goals as goal

pub rules-init : goal.rules-init
rules-init c = ((λ js h. (js, h, refl, omega arith)), omega arith)

pub returns-in_default-clause-left : goal.returns-in_default-clause-left
returns-in_default-clause-left c = λ ks h.
    let j = c.rules.invariant.0 ks h in
    left_none c.args.bank.now c.args.rules.now.items c.args.key c.rules.at ks j.0 c.in_default.is j.1 j.2

pub returns-then-may_meet-clause-left : goal.returns-then-may_meet-clause-left
returns-then-may_meet-clause-left c = λ ks h.
    let s = read_at c.args.rules.now.items c.deref.result.now c.in-Some.number c.in-Some-get.rule.now _ c.deref.ensures.value c.in-Some-get.ensures.lookup.3.0 c.in-Some-get.ensures.lookup.1 in
    let j = c.rules.invariant.0 ks h in
    left_some c.args.bank.now c.args.rules.now.items c.args.key c.rules.at ks j.0 c.in-Some.number c.in-Some-get.rule.now c.in-Some.is s (sym c.if-may_meet.true ∙ c.may_meet.ensures.same) j.1 j.2

pub rules-preserved : goal.rules-preserved
rules-preserved c =
    let s = read_at c.args.rules.now.items c.deref.result.now c.in-Some.number c.in-Some-get.rule.now _ c.deref.ensures.value c.in-Some-get.ensures.lookup.3.0 c.in-Some-get.ensures.lookup.1 in
    let w = slice_get_within c.args.rules.now.items c.in-Some.number c.in-Some-get.rule.now s in (
      (λ ks h.
          let j = c.rules.invariant.0 ks h in
          let m = left_further c.args.bank.now c.args.rules.now.items c.args.key c.rules.at ks j.0 c.in-Some.number c.in-Some-get.rule.now c.in-Some.is s (sym c.if-may_meet.false ∙ c.may_meet.ensures.same) j.1 j.2 in
          let l = one_passed c.args.rules.now.items c.rules.at c.in-Some.number c.in-Some-get.rule.now j.0 m.0 c.in-Some.is s j.1 m.1 in
          let n = j.3 in
          (m.0, subst (λ z. IsChain (nexts c.args.rules.now.items) z m.0) (sym c.later-at.ensures) m.1, m.2, omega (arith, l, n))),
      further_rank c.in-Some.number c.rules.at c.later-at.result c.args.from c.in-Some-get.rule.now.next c.in-Some.is c.later-at.ensures
          (omega (arith, w, c.args.rules.now.ok)) c.rules.invariant.1,
    )

pub returns-then-may_meet-clause-ranks : goal.returns-then-may_meet-clause-ranks
returns-then-may_meet-clause-ranks c = found_rank c.in-Some.number c.rules.at c.args.from c.in-Some.is c.rules.invariant.1

pub returns-in_default-get-clause-left : goal.returns-in_default-get-clause-left
returns-in_default-get-clause-left c = λ ks h.
    let j = c.rules.invariant.0 ks h in
    left_outside c.args.bank.now c.args.rules.now.items c.args.key c.rules.at ks j.0 c.in-Some.number c.in-Some.is
    (get_none c.args.rules.now.items c.deref.result.now c.in-Some.number c.deref.ensures.value c.in_default-get.ensures.lookup.3) j.1 j.2

pub returns-clause-left : goal.returns-clause-left
returns-clause-left c = λ ks h.
    let j = c.rules.invariant.0 ks h in
    all_passed c.args.bank.now c.args.rules.now.items c.args.key c.args.from c.rules.at ks j.0 c.rules.passed h j.1 j.3
    (omega (arith, c.rules-test.false, c.len-passed-end.ensures, c.args.rules.now.ok)) j.2
