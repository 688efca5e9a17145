use Rattle.std.proofs.Common.{◌≡◌, length, sym, subst, arith}
use Rattle.lp_build.specs.Compiled.{ArePaired, HasNamesOf}
use Rattle.lp_build.proofs.Compiling.{paired_more, paired_none}
use Rattle.lp_build.proofs.images.all_names.Goals as goal

pub loop-at-init : goal.loop-at-init
loop-at-init c = paired_none HasNamesOf c.args.modules.now.items _ c.new-objects.ensures.items

pub loop-at-preserved : goal.loop-at-preserved
loop-at-preserved c = paired_more HasNamesOf c.args.modules.now.items c.loop-at.at c.loop-at.objects.items c.push.new.self.items c.index.result.now c.in_ok-object.object
    (omega (arith, c.loop-at-test.true, c.len-at-end.ensures, c.args.modules.now.ok), sym c.index.ensures) c.in_ok-push.ensures.items c.in_ok-object.ensures c.loop-at.invariant

pub returns : goal.returns
returns c =
    let n : c.loop-at.at ≡ length c.args.modules.now.items = omega (arith, c.loop-at-test.false, c.loop-at.auto.at-end, c.len-at-end.ensures, c.args.modules.now.ok) in
    subst (λ n. ArePaired HasNamesOf c.args.modules.now.items n c.loop-at.objects.items) n c.loop-at.invariant
