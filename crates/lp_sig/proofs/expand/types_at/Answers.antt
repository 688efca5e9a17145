use Rattle.lp_sig.specs.Holding.{type_done}
use Rattle.lp_sig.proofs.Typing.{found_type, parts_more}
use Rattle.lp_sig.proofs.Settled.{not_made}
use Rattle.lp_sig.proofs.expand.types_at.Goals as goal

pub loop-place-preserved : goal.loop-place-preserved
loop-place-preserved c =
    parts_more (type_done c.args.done.now) c.loop-place.yielded c.in-Some.place c.loop-place.types.items c.push.new.self.items c.in-Some-Some.id c.loop-place.invariant
    (found_type c.args.done.now c.in-Some.place c.in-Some-Some.field-0.now c.in-Some-Some.id c.in-Some-Some.ensures.lookup.3.0 c.in-Some-Some.ensures.lookup.1 c.in-Some-Some.field-0-is) c.in_ok-push-in-Some-Some.ensures.items

pub returns-in-Some-None-clause-made : goal.returns-in-Some-None-clause-made
returns-in-Some-None-clause-made c = λ all. absurd (not_made c.args.done.now c.in-Some.place c.in-Some-None.field-0.now c.in-Some-None.ensures.lookup.3.0 c.in-Some-None.ensures.lookup.1 c.in-Some-None.field-0-is all)
