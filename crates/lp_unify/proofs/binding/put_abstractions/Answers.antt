use Rattle.lp_unify.proofs.Frames.{stays_same}
use Rattle.lp_unify.proofs.binding.put_abstractions.Goals as goal

pub loop-init : goal.loop-init
loop-init c = record { stays = stays_same c.args.store.now; apart = λ x h a. a }
