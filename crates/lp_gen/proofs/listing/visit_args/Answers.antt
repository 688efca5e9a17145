use Rattle.lp_gen.proofs.Courses.{next_argument}
use Rattle.lp_gen.proofs.listing.visit_args.Goals as goal

pub returns-in_ok-push-2-clause-acts : goal.returns-in_ok-push-2-clause-acts
returns-in_ok-push-2-clause-acts c = λ K w.
    next_argument K c.args.bank.now c.args.work.now.items c.push.new.self.items c.push-in-Some.new.self.items c.args.args c.pop.new.self c.in-Some.first c.args.function c.next-of.result.1
    c.next-of.result.0 w c.in-Some.ensures.items c.in_ok-push.ensures.items c.in_ok-push-2.ensures.items c.next-of.ensures.from c.next-of.ensures.to
