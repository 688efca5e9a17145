use Rattle.std.proofs.Common.{◌≡◌, inl, inr, length, subst, sym, refl, arith}
use Rattle.lp_term.proofs.Trees.{extends_same, extends-trans}
use Rattle.lp_pattern.proofs.Walking.{reading_kept}
use Rattle.lp_plain.specs.Standings.{OfFree, OfStanding, astray, ends, goes_on, nothing}
use Rattle.lp_plain.proofs.Scoped.{get_is, get_none}
use Rattle.lp_plain.proofs.OpenGoals.{free_earlier}
use Rattle.lp_plain.proofs.openness.openness_of_goal.Goals as goal

pub returns-then-not-is_closed-clause-judged : goal.returns-then-not-is_closed-clause-judged
returns-then-not-is_closed-clause-judged c = λ k r h.
    c.outwards.invariant.1 k c.in_ok-openness.openness r h (ends c.free-free.result.now c.free-free.ensures
    (free_earlier c.args.bank.now c.outwards.bank k c.args.around.scopes.now c.outwards.standing.values c.free-free.result.now c.in_ok-openness.openness c.outwards.invariant.0 (c.in_ok-openness.ensures.judged k (reading_kept c.args.bank.now c.outwards.bank _ k c.outwards.invariant.0 r) h))
    (inr (c.is_closed.ensures.left c.if-not-is_closed.true)))

pub returns-in_default-clause-judged : goal.returns-in_default-clause-judged
returns-in_default-clause-judged c = λ k r h.
    c.outwards.invariant.1 k _ r h (ends c.free-free.result.now c.free-free.ensures
    (subst (λ o. OfFree c.args.bank.now k c.args.around.scopes.now c.outwards.standing.values c.free-free.result.now o) (c.is_closed.ensures.closed c.if-not-is_closed.false)
    (free_earlier c.args.bank.now c.outwards.bank k c.args.around.scopes.now c.outwards.standing.values c.free-free.result.now c.in_ok-openness.openness c.outwards.invariant.0 (c.in_ok-openness.ensures.judged k (reading_kept c.args.bank.now c.outwards.bank _ k c.outwards.invariant.0 r) h)))
    (inl c.in_default.is))

pub outwards-preserved : goal.outwards-preserved
outwards-preserved c = (
  extends-trans _ _ _ c.outwards.invariant.0 c.in_ok-openness.ensures.kept,
  λ k o r h s. c.outwards.invariant.1 k o r h (goes_on c.free-free.result.now c.in-Some.number c.in-Some-get.older.now c.free-free.ensures
      (subst (λ o. OfFree c.args.bank.now k c.args.around.scopes.now c.outwards.standing.values c.free-free.result.now o) (c.is_closed.ensures.closed c.if-not-is_closed.false)
      (free_earlier c.args.bank.now c.outwards.bank k c.args.around.scopes.now c.outwards.standing.values c.free-free.result.now c.in_ok-openness.openness c.outwards.invariant.0 (c.in_ok-openness.ensures.judged k (reading_kept c.args.bank.now c.outwards.bank _ k c.outwards.invariant.0 r) h)))
      c.in-Some.is (get_is c.args.around.standings.now c.args.around.standings.now c.in-Some.number c.in-Some-get.older.now refl c.in-Some-get.ensures.lookup.3.0 c.in-Some-get.ensures.lookup.1) s),
)

pub returns-then-not-has_free-clause-judged : goal.returns-then-not-has_free-clause-judged
returns-then-not-has_free-clause-judged c = λ k r h. c.outwards.invariant.1 k _ r h (nothing (c.has_free.ensures.none c.if-not-has_free.true))

pub returns-then-number-below-clause-judged : goal.returns-then-number-below-clause-judged
returns-then-number-below-clause-judged c = λ k r h. c.outwards.invariant.1 k _ r h (astray c.in-Some.number c.in-Some.is (inl c.if-number-below.true))

pub returns-in_default-get-clause-judged : goal.returns-in_default-get-clause-judged
returns-in_default-get-clause-judged c = λ k r h.
    c.outwards.invariant.1 k _ r h (astray c.in-Some.number c.in-Some.is
    (inr (get_none c.args.around.standings.now c.args.around.standings.now c.in-Some.number refl c.in_default-get.ensures.lookup.3)))

pub free-free-requires : goal.free-free-requires
free-free-requires c = c.has_free.ensures.there c.if-not-has_free.false
