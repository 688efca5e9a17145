use Rattle.lp_lemmas.proofs.Elements.{All_pushed}
use Rattle.lp_unify.specs.Inside.{IsTaskFor}
use Rattle.lp_unify.proofs.settle.push_visits.Goals as goal

pub loop-done-preserved : goal.loop-done-preserved
loop-done-preserved c = λ s x a. All_pushed (IsTaskFor s x) c.push.new.self.items c.loop-done.tasks.items _ c.in_ok-push.ensures.items (c.loop-done.invariant s x a) tt
