use Rattle.std.proofs.Common.{◌≡◌, map, Some, subst, take_all}
use Rattle.std.specs.Prelude.{nat_eq}
use Rattle.indexmap.specs.IndexMap.{get}
use Rattle.lp_sig.specs.inner.Tasks.{HasCopy}
use Rattle.lp_sig.proofs.Tasks.{copy_of_part, one_more}
use Rattle.lp_sig.proofs.interned.copies_of.Goals as goal

pub copy_of-requires : goal.copy_of-requires
copy_of-requires c = copy_of_part (HasCopy c.args.made.now) c.args.ids.now c.loop-at.at _ c.loop-at-test.true c.requires

pub loop-at-preserved : goal.loop-at-preserved
loop-at-preserved c = one_more (get nat_eq c.args.made.now) c.args.ids.now c.loop-at.at _ c.copy_of.result c.loop-at.copies.items c.push.new.self.items c.loop-at-test.true c.copy_of.ensures c.in_ok-push.ensures.items c.loop-at.invariant

pub returns : goal.returns
returns c = subst (λ l. map (λ t. get nat_eq c.args.made.now t.0) l ≡ map (λ c. Some c.0) c.loop-at.copies.items) (take_all c.loop-at.at c.args.ids.now c.loop-at-test.false) c.loop-at.invariant
