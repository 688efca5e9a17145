use Rattle.lp_link.proofs.Uses.{uses_within, objects_done}
use Rattle.lp_link.proofs.places.uses_of.Goals as goal

pub returns-clause-within : goal.returns-clause-within
returns-clause-within c = uses_within c.args.objects.now c.loop-at.uses.items (objects_done c.args.objects.now c.loop-at.at c.loop-at.uses.items c.loop-at-test.false c.loop-at.invariant)
