use Rattle.std.proofs.Common.{◌≡◌, ◌<◌, ◌≤◌, ◌∙◌, sym, ap, subst, true, true≢false, length, get_or, Some}
use Rattle.std.specs.Prelude.{slice_get}
use Rattle.std.proofs.lemmas.Option.{slice_get-get_or}
use Rattle.lp_link.proofs.Firsts.{one_more_constant, no_constant_behind}
use Rattle.lp_code.specs.declared.object.ObjectConstant.{ObjectConstant}
use Rattle.lp_link.specs.Differences.{IsOtherAbove, constant_of}
use Rattle.lp_link.proofs.differ.Edge.constant_that_differs.Goals.{else-constant-via-then-constant+in_ok-has_constant+else-not-branch, else-constant-via-else-constant}
use Rattle.lp_link.proofs.differ.Edge.constant_that_differs.Goals as goal

pub returns-then-not-branch-clause-other : goal.returns-then-not-branch-clause-other
returns-then-not-branch-clause-other c = record {
  constant = c.index-constants-at.result;
  there = ap (λ l. slice_get l c.loop-at.at) (sym c.as_slice-constants.ensures.value) ∙ slice_get-get_or c.as_slice-constants.result.now c.loop-at.at
      c.index-constants-at.result c.loop-at-test.true ∙ ap (λ x. Some x) (sym c.index-constants-at.is);
  exported = c.if-constant.true;
  other = c.in_ok-has_constant.ensures.other c.if-not-branch.true;
}

pub loop-at-preserved : goal.loop-at-preserved
loop-at-preserved c = one_more_constant c.args.self.now.below.now.object.now c.args.self.now.above.now.object.now c.loop-at.at k
    (subst (λ l. c.loop-at.at < length l) value c.loop-at-test.true) (c.index-constants-at.is ∙ ap (λ l. get_or l c.loop-at.at k) value) fine
    c.loop-at.invariant
  where
    k : ObjectConstant
    k = c.index-constants-at.result

    value : c.as_slice-constants.result.now ≡ c.args.self.now.below.now.object.now.constants.items
    value = c.as_slice-constants.ensures.value

    fine : k.exported ≡ true → IsOtherAbove c.args.self.now.below.now.object.now c.args.self.now.above.now.object.now k
        (constant_of c.args.self.now.above.now.object.now.constants.items k.name.items) → ⊥
    fine = elim c.else-constant.branch [
      | else-constant-via-then-constant+in_ok-has_constant+else-not-branch w ↦ λ e. w.in_ok-has_constant.ensures.same
          w.if-not-branch.false
      | else-constant-via-else-constant w ↦ λ e. absurd (true≢false (sym e ∙ w.if-constant.false))
    ]

pub returns-clause-none : goal.returns-clause-none
returns-clause-none c = λ _. no_constant_behind c.args.self.now.below.now.object.now c.args.self.now.above.now.object.now c.loop-at.at
    (subst (λ l. length l ≤ c.loop-at.at) c.as_slice-constants.ensures.value c.loop-at-test.false) c.loop-at.invariant
