use Rattle.std.proofs.Common.{◌≡◌, length, sym, subst, arith}
use Rattle.lp_build.specs.Compiled.{ArePaired, IsObjectKind}
use Rattle.lp_build.proofs.Compiling.{exported_more, exported_none, paired_more, paired_none}
use Rattle.lp_build.proofs.objects.kinds_of.Goals as goal

pub loop-at-init : goal.loop-at-init
loop-at-init c = record {
  kinds = paired_none IsObjectKind c.kinds-entries.result.now _ c.new-kinds.ensures.items;
  exported = exported_none (λ k. k.exported) c.args.exported _ c.new-kinds.ensures.items;
}

pub loop-at-preserved : goal.loop-at-preserved
loop-at-preserved c = record {
  kinds = paired_more IsObjectKind c.kinds-entries.result.now c.loop-at.at c.loop-at.kinds.items c.push.new.self.items c.index-entries-at.result
      c.in_ok-kind.kind (c.loop-at-test.true, sym c.index-entries-at.is) c.in_ok-push.ensures.items c.in_ok-kind.ensures.kind c.loop-at.invariant.kinds;
  exported = exported_more (λ k. k.exported) c.args.exported c.loop-at.at c.loop-at.kinds.items c.push.new.self.items c.in_ok-kind.kind
      c.loop-at.invariant.kinds.many c.in_ok-push.ensures.items c.in_ok-kind.ensures.exported c.loop-at.invariant.exported;
}

pub returns-clause-kinds : goal.returns-clause-kinds
returns-clause-kinds c =
    let n : c.loop-at.at ≡ length c.kinds-entries.result.now = omega (arith, c.loop-at-test.false, c.loop-at.auto.at-end) in
    subst (λ l. ArePaired IsObjectKind l (length l) c.loop-at.kinds.items) c.kinds-entries.ensures
    (subst (λ n. ArePaired IsObjectKind c.kinds-entries.result.now n c.loop-at.kinds.items) n c.loop-at.invariant.kinds)

pub returns-clause-exported : goal.returns-clause-exported
returns-clause-exported c = c.loop-at.invariant.exported
