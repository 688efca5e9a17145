use Rattle.lp_term.proofs.Trees.{extends-trans}
use Rattle.lp_plain.specs.Renewal.{renewing}
use Rattle.lp_plain.proofs.RenewedTypes.{one_more_within, one_more_renewed}
use Rattle.lp_plain.proofs.types.all_renewed.Goals as goal

pub ids-preserved : goal.ids-preserved
ids-preserved c = record {
  kept = extends-trans c.args.bank.now c.ids.bank c.renewed.new.bank c.ids.invariant.kept c.in_ok-made.ensures.kept;
  within = one_more_within c.ids.bank c.renewed.new.bank c.ids.new.items _ c.in_ok-made.made c.in_ok-made.ensures.kept c.ids.invariant.within c.in_ok-made.ensures.within c.in_ok-push.ensures.items;
  trees =
      one_more_renewed (renewing c.args.by) c.args.bank.now c.ids.bank c.renewed.new.bank c.ids.yielded c.ids.new.items _ c.in-Some.id c.in_ok-made.made c.ids.invariant.kept c.in_ok-made.ensures.kept c.ids.invariant.within c.ids.invariant.trees
      c.in_ok-made.ensures.tree c.in_ok-push.ensures.items;
}
