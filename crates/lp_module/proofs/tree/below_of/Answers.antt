use Rattle.std.proofs.Common.{◌<◌, refl, sym, subst, arith, length}
use Rattle.lp_module.proofs.Summing.{below_more, below_done, in_all_at}
use Rattle.lp_module.proofs.tree.below_of.Goals as goal

pub loop-at-init : goal.loop-at-init
loop-at-init c = (refl, refl)

pub loop-at-preserved : goal.loop-at-preserved
loop-at-preserved c =
    let h : c.loop-at.at < length c.args.out.now.items = omega (arith, c.loop-at-test.true, c.len-at-end.ensures, c.args.out.now.ok) in
    let lt = subst (λ k. k < length c.args.totals.now.items) (sym c.index.ensures) (c.requires c.loop-at.at c.index.result.now h) in (
      below_more _ c.args.out.now.items c.loop-at.at c.index.result.now c.loop-at.all.kinds c.index-in-loop-at.result.now.kinds
          c.with-all.result.kinds h c.index.ensures (in_all_at (λ h. h.kinds) c.args.totals.now.items c.index.result.now c.index-in-loop-at.result.now
          lt c.index-in-loop-at.ensures) c.loop-at.invariant.0 c.with-all.ensures.kinds,
      below_more _ c.args.out.now.items c.loop-at.at c.index.result.now c.loop-at.all.constants c.index-in-loop-at.result.now.constants
          c.with-all.result.constants h c.index.ensures (in_all_at (λ h. h.constants) c.args.totals.now.items c.index.result.now
          c.index-in-loop-at.result.now lt c.index-in-loop-at.ensures) c.loop-at.invariant.1 c.with-all.ensures.constants,
    )

pub returns-clause-kinds : goal.returns-clause-kinds
returns-clause-kinds c = below_done _ c.args.out.now.items c.loop-at.at c.loop-at.all.kinds (omega (arith, c.loop-at-test.false, c.len-at-end.ensures, c.args.out.now.ok)) c.loop-at.invariant.0

pub returns-clause-constants : goal.returns-clause-constants
returns-clause-constants c = below_done _ c.args.out.now.items c.loop-at.at c.loop-at.all.constants (omega (arith, c.loop-at-test.false, c.len-at-end.ensures, c.args.out.now.ok)) c.loop-at.invariant.1
