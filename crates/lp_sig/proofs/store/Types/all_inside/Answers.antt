use Rattle.lp_term.proofs.Within.{kept_then}
use Rattle.lp_term.proofs.Trees.{extends_same}
use Rattle.lp_sig.proofs.Inside.{same_none, same_more}
use Rattle.lp_sig.proofs.store.Types.all_inside.Goals as goal

pub loop-id-init : goal.loop-id-init
loop-id-init c = record {
  kept = extends_same c.args.self.now.bank;
  same = λ b x e. same_none b c.args.self.now.bank c.new-here.result.items c.new-here.ensures.items;
}

pub loop-id-preserved : goal.loop-id-preserved
loop-id-preserved c =
    let b = c.args.self.now.bank in
    let mid = c.loop-id.self.bank in
    let now = c.inside.new.self.bank in
    record {
      kept = kept_then b mid now c.loop-id.invariant.kept c.inside.ensures.kept;
      same = λ a x e. same_more a mid now c.loop-id.yielded c.loop-id.here.items c.push.new.self.items _ c.in_ok-one.one c.in_ok-push.ensures.items c.inside.ensures.kept
          (c.in_ok-one.ensures.tree a (kept_then a b mid x c.loop-id.invariant.kept) e) (c.loop-id.invariant.same a x e);
    }

pub returns-in_err-one-clause-kept : goal.returns-in_err-one-clause-kept
returns-in_err-one-clause-kept c = kept_then c.args.self.now.bank c.loop-id.self.bank c.inside.new.self.bank c.loop-id.invariant.kept c.inside.ensures.kept

pub returns-in_err-push-clause-kept : goal.returns-in_err-push-clause-kept
returns-in_err-push-clause-kept c = kept_then c.args.self.now.bank c.loop-id.self.bank c.inside.new.self.bank c.loop-id.invariant.kept c.inside.ensures.kept

pub returns-clause-kept : goal.returns-clause-kept
returns-clause-kept c = c.loop-id.invariant.kept
