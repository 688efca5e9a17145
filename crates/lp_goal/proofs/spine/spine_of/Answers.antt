use Rattle.lp_susp.proofs.Keeping.{reduced_same}
use Rattle.lp_goal.proofs.Tops.{spine_above}
use Rattle.lp_goal.proofs.spine.spine_of.Goals as goal

pub returns-in_ok-spine-in-Ok-clause-spine : goal.returns-in_ok-spine-in-Ok-clause-spine
returns-in_ok-spine-in-Ok-clause-spine c = λ t p.
    let k = c.in-Ok.ensures.normal t p in
    spine_above c.gathered.new.store c.in_ok-spine-in-Ok.spine t k.0 k.3 (c.in_ok-spine-in-Ok.ensures.spine k.0 k.1 k.4)

pub returns-in-Some-clause-reduced : goal.returns-in-Some-clause-reduced
returns-in-Some-clause-reduced c = reduced_same c.args.store.now
