use Rattle.std.proofs.Common.{◌≡◌, length, sym, subst, arith}
use Rattle.lp_term.proofs.Trees.{extends_same, extends-trans}
use Rattle.lp_build.specs.Compiled.{ArePaired, IsObjectConstant}
use Rattle.lp_build.proofs.Compiling.{exported_more, exported_none, paired_more, paired_none}
use Rattle.lp_build.proofs.objects.constants_of.Goals as goal

pub loop-at-init : goal.loop-at-init
loop-at-init c = record {
  made = c.new-changed.ensures _ c.args.signature.now.bank c.args.bank.now;
  constants = λ later grown. paired_none (IsObjectConstant c.args.signature.now later) c.constants-entries.result.now _ c.new-constants.ensures.items;
  exported = exported_none (λ k. k.exported) c.args.exported _ c.new-constants.ensures.items;
}

pub loop-at-preserved : goal.loop-at-preserved
loop-at-preserved c = record {
  made = c.in_ok-constant.ensures.memo c.loop-at.invariant.made;
  constants = λ later grown. paired_more (IsObjectConstant c.args.signature.now later) c.constants-entries.result.now c.loop-at.at
      c.loop-at.constants.items c.push.new.self.items c.index-entries-at.result c.in_ok-constant.constant
      (c.loop-at-test.true, sym c.index-entries-at.is) c.in_ok-push.ensures.items
      (c.in_ok-constant.ensures.constant c.loop-at.invariant.made later grown)
      (c.loop-at.invariant.constants later (extends-trans _ _ _ c.in_ok-constant.ensures.kept grown));
  exported = exported_more (λ k. k.exported) c.args.exported c.loop-at.at c.loop-at.constants.items c.push.new.self.items c.in_ok-constant.constant
      (c.loop-at.invariant.constants c.object_constant.new.bank c.in_ok-constant.ensures.kept).many c.in_ok-push.ensures.items
      c.in_ok-constant.ensures.exported c.loop-at.invariant.exported;
}

pub returns-clause-constants : goal.returns-clause-constants
returns-clause-constants c =
    let n : c.loop-at.at ≡ length c.constants-entries.result.now = omega (arith, c.loop-at-test.false, c.loop-at.auto.at-end) in
    subst (λ l. ArePaired (IsObjectConstant c.args.signature.now c.loop-at.bank) l (length l) c.loop-at.constants.items) c.constants-entries.ensures
    (subst (λ n. ArePaired (IsObjectConstant c.args.signature.now c.loop-at.bank) c.constants-entries.result.now n c.loop-at.constants.items) n
    (c.loop-at.invariant.constants c.loop-at.bank (extends_same c.loop-at.bank)))

pub returns-clause-exported : goal.returns-clause-exported
returns-clause-exported c = c.loop-at.invariant.exported
