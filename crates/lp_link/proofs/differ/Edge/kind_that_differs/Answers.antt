use Rattle.std.proofs.Common.{◌≡◌, ◌<◌, ◌≤◌, ◌∙◌, sym, ap, subst, true, true≢false, length, get_or, Some}
use Rattle.std.specs.Prelude.{slice_get}
use Rattle.std.proofs.lemmas.Option.{slice_get-get_or}
use Rattle.lp_link.proofs.Firsts.{one_more_kind, no_kind_behind}
use Rattle.lp_code.specs.declared.object.ObjectKind.{ObjectKind}
use Rattle.lp_link.specs.Differences.{arity_of}
use Rattle.lp_link.proofs.differ.Edge.kind_that_differs.Goals.{else-kind-via-then-kind+else-not-has_kind, else-kind-via-else-kind}
use Rattle.lp_link.proofs.differ.Edge.kind_that_differs.Goals as goal

pub returns-then-not-has_kind-clause-other : goal.returns-then-not-has_kind-clause-other
returns-then-not-has_kind-clause-other c = record {
  kind = c.index-kinds-at.result;
  there = ap (λ l. slice_get l c.loop-at.at) (sym c.as_slice-kinds.ensures.value) ∙ slice_get-get_or c.as_slice-kinds.result.now c.loop-at.at
      c.index-kinds-at.result c.loop-at-test.true ∙ ap (λ x. Some x) (sym c.index-kinds-at.is);
  exported = c.if-kind.true;
  other = c.has_kind.ensures.other c.if-not-has_kind.true;
}

pub loop-at-preserved : goal.loop-at-preserved
loop-at-preserved c = one_more_kind c.args.self.now.below.now.object.now c.args.self.now.above.now.object.now c.loop-at.at k
    (subst (λ l. c.loop-at.at < length l) value c.loop-at-test.true) (c.index-kinds-at.is ∙ ap (λ l. get_or l c.loop-at.at k) value) fine
    c.loop-at.invariant
  where
    k : ObjectKind
    k = c.index-kinds-at.result

    value : c.as_slice-kinds.result.now ≡ c.args.self.now.below.now.object.now.kinds.items
    value = c.as_slice-kinds.ensures.value

    fine : k.exported ≡ true → arity_of c.args.self.now.above.now.object.now.kinds.items k.name.items ≡ Some k.arity
    fine = elim c.else-kind.branch [
      | else-kind-via-then-kind+else-not-has_kind w ↦ λ e. w.has_kind.ensures.same w.if-not-has_kind.false
      | else-kind-via-else-kind w ↦ λ e. absurd (true≢false (sym e ∙ w.if-kind.false))
    ]

pub returns-clause-none : goal.returns-clause-none
returns-clause-none c = λ _. no_kind_behind c.args.self.now.below.now.object.now c.args.self.now.above.now.object.now c.loop-at.at
    (subst (λ l. length l ≤ c.loop-at.at) c.as_slice-kinds.ensures.value c.loop-at-test.false) c.loop-at.invariant
