use Rattle.lp_susp.proofs.TypeWorks.{arrow_made}
use Rattle.lp_susp.proofs.type_reading.make_arrow.Goals as goal

pub returns-clause-made : goal.returns-clause-made
returns-clause-made c = λ front a b h.
    arrow_made c.args.bank.now c.put_type.new.self c.in_ok-id.ensures.kept c.args.out.now.items c.pop.new.self.items c.pop-2.new.self.items c.push.new.self.items c.in-Some-pop.from c.in-Some.to c.in_ok-id.id front a b
    c.requires c.in-Some.ensures.items c.in-Some-pop.ensures.items c.in_ok-push.ensures.items c.in_ok-id.ensures.tree h
