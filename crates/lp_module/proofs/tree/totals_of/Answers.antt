use Rattle.std.proofs.Common.{◌<◌, ◌∙◌, sym, subst, arith, length}
use Rattle.std.specs.Prelude.{Contains}
use Rattle.std.proofs.lemmas.List.{take_all}
use Rattle.lp_copies.specs.Trees.{lists_in}
use Rattle.lp_copies.proofs.Copied.{row_is}
use Rattle.lp_module.specs.inner.Assembling.{in_all, own_kinds, own_constants}
use Rattle.lp_module.proofs.Uses.{count_at}
use Rattle.lp_module.proofs.Totals.{behind_more, closed_more, totals_step}
use Rattle.lp_module.proofs.Summing.{none_in, within_totals, total_of}
use Rattle.lp_module.proofs.tree.totals_of.Goals as goal

pub loop-at-init : goal.loop-at-init
loop-at-init c = (omega (arith, c.in_ok-totals.ensures.len, c.in_ok-totals.totals.ok), c.requires.behind, (λ k x u y. none_in k x), (λ k x. none_in k x), (λ k x. none_in k x))

pub below_of-below-requires : goal.below_of-below-requires
below_of-below-requires c =
    let h : c.loop-at.at < length c.args.order.now.items = omega (arith, c.loop-at-test.true, c.len-at-end.ensures, c.args.order.now.ok) in
    let lt = subst (λ k. k < length c.args.modules.now) (sym c.index-place.ensures) (c.requires.order c.loop-at.at c.index-place.result.now h) in
    within_totals c.args.uses.now.items c.index-place.result.now c.index.result.now (length c.loop-at.totals.items) (omega (arith, lt, c.requires.modules)) c.index.ensures (c.loop-at.invariant.0 ∙ c.requires.modules) c.requires.within

pub loop-at-preserved : goal.loop-at-preserved
loop-at-preserved c =
    let us = lists_in c.args.uses.now.items in
    let order = c.args.order.now.items in
    let place = c.index-place.result.now in
    let h : c.loop-at.at < length c.args.order.now.items = omega (arith, c.loop-at-test.true, c.len-at-end.ensures, c.args.order.now.ok) in
    let lt = subst (λ k. k < length c.args.modules.now) (sym c.index-place.ensures) (c.requires.order c.loop-at.at c.index-place.result.now h) in
    let row = row_is c.args.uses.now.items place c.index.result.now (omega (arith, lt, c.requires.modules)) c.index.ensures in (
      c.set_total.ensures.count ∙ c.loop-at.invariant.0,
      behind_more us order c.loop-at.at place h c.index-place.ensures c.loop-at.invariant.1,
      closed_more us order c.loop-at.at place h c.index-place.ensures c.loop-at.invariant.1 c.loop-at.invariant.2,
      totals_step us order c.loop-at.at place h c.index-place.ensures c.loop-at.invariant.1 c.loop-at.invariant.2 (own_kinds c.args.modules.now) (λ h. h.kinds) c.loop-at.totals.items c.set_total.new.totals.items c.with-total.result c.set_total.ensures
          (total_of (own_kinds c.args.modules.now) (in_all (λ h. h.kinds) c.loop-at.totals.items) us place c.of.result.kinds
          c.below_of-below.result.kinds c.with-total.result.kinds c.index.result.now.items
          (c.of.ensures.kinds ∙ count_at (λ m. length m.hidden_kinds.items) c.args.modules.now place c.index-modules-place.result lt
          c.index-modules-place.is) row c.below_of-below.ensures.kinds c.with-total.ensures.kinds)
          c.loop-at.invariant.3,
      totals_step us order c.loop-at.at place h c.index-place.ensures c.loop-at.invariant.1 c.loop-at.invariant.2 (own_constants c.args.modules.now) (λ h. h.constants) c.loop-at.totals.items c.set_total.new.totals.items c.with-total.result c.set_total.ensures
          (total_of (own_constants c.args.modules.now) (in_all (λ h. h.constants) c.loop-at.totals.items) us place c.of.result.constants
          c.below_of-below.result.constants c.with-total.result.constants c.index.result.now.items
          (c.of.ensures.constants ∙ count_at (λ m. length m.hidden_constants.items) c.args.modules.now place c.index-modules-place.result lt
          c.index-modules-place.is) row c.below_of-below.ensures.constants c.with-total.ensures.constants)
          c.loop-at.invariant.4,
    )

pub returns-clause-count : goal.returns-clause-count
returns-clause-count c = c.loop-at.invariant.0

pub returns-clause-kinds : goal.returns-clause-kinds
returns-clause-kinds c = λ m x. c.loop-at.invariant.3 m (subst (λ l. Contains l m) (sym (take_all c.loop-at.at c.args.order.now.items (omega (arith, c.loop-at-test.false, c.len-at-end.ensures, c.args.order.now.ok)))) x)

pub returns-clause-constants : goal.returns-clause-constants
returns-clause-constants c = λ m x. c.loop-at.invariant.4 m (subst (λ l. Contains l m) (sym (take_all c.loop-at.at c.args.order.now.items (omega (arith, c.loop-at-test.false, c.len-at-end.ensures, c.args.order.now.ok)))) x)
