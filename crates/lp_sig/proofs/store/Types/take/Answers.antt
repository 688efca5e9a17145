use Rattle.std.proofs.Common.{◌≡◌, ◌+◌, ◌<◌, ◌∷◌, reverse, subst, sym, arith}
use Rattle.std.specs.Prelude.{◌⊎◌}
use Rattle.std.proofs.lemmas.Result.{on_ok_weaker}
use Rattle.lp_lemmas.proofs.Results.{on_ok_always}
use Rattle.lp_sig.specs.Copying.{InRange, AreInRange, left, cost}
use Rattle.lp_sig.specs.inner.Tasks.{HasCopy, AllGo}
use Rattle.lp_sig.proofs.Tasks.{go_weaker}
use Rattle.lp_sig.proofs.store.Types.take.Goals as goal

pub returns-in-Visit-clause-falls : goal.returns-in-Visit-clause-falls
returns-in-Visit-clause-falls c = on_ok_weaker c.visit.result (λ f b x h r. subst (λ t. AreInRange b c.visit.new.work.items × (left b c.visit.new.work.items < left b c.args.work.now.items + cost b t)) (sym c.in-Visit.is) (f b x (subst (InRange b) c.in-Visit.is h) r)) c.visit.ensures.falls

pub returns-in-Build-clause-falls : goal.returns-in-Build-clause-falls
returns-in-Build-clause-falls c = on_ok_always c.build.result _ (λ b x h r. subst (λ t. AreInRange b c.args.work.now.items × (left b c.args.work.now.items < left b c.args.work.now.items + cost b t)) (sym c.in-Build.is) (r, omega arith))

pub returns-in-Visit-clause-copies : goal.returns-in-Visit-clause-copies
returns-in-Visit-clause-copies c = on_ok_weaker c.visit.result (λ f b x r all kept. f b x (subst (InRange b) c.in-Visit.is r) all kept) c.visit.ensures.copies

pub returns-in-Build-clause-copies : goal.returns-in-Build-clause-copies
returns-in-Build-clause-copies c = on_ok_weaker c.build.result (λ f b x r all kept. f b c.args.args.now x (subst (InRange b) c.in-Build.is r) kept) c.build.ensures.copies

pub build-requires : goal.build-requires
build-requires c = c.requires c.in-Build.id c.in-Build.is

pub returns-in-Visit-clause-goes : goal.returns-in-Visit-clause-goes
returns-in-Visit-clause-goes c = on_ok_weaker c.visit.result (λ f b root x h go. f b root x (subst (InRange b) c.in-Visit.is h)
    (subst (λ t. AllGo b root (HasCopy c.args.made.now) (t ∷ reverse c.args.work.now.items)) c.in-Visit.is go)) c.visit.ensures.goes

pub returns-in-Build-clause-goes : goal.returns-in-Build-clause-goes
returns-in-Build-clause-goes c = on_ok_weaker c.build.result (λ f b root x h go. go_weaker b root (λ i. HasCopy c.args.made.now i ⊎ (i ≡ c.in-Build.id.0)) (HasCopy c.build.new.made) f (reverse c.args.work.now.items)
    (subst (λ t. AllGo b root (HasCopy c.args.made.now) (t ∷ reverse c.args.work.now.items)) c.in-Build.is go).1) c.build.ensures.goes
