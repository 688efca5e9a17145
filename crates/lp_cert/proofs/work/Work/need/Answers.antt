use Rattle.lp_term.specs.Nodes.{tree}
use Rattle.lp_cert.proofs.Going.{need_goes}
use Rattle.std.proofs.Common.{refl, subst, sym}
use Rattle.lp_cert.proofs.Turning.{goes_to_both}
use Rattle.lp_cert.proofs.Nodewise.{implied_ready}
use Rattle.lp_cert.specs.Run.{focusing}
use Rattle.lp_term.proofs.Trees.{extends_same}
use Rattle.lp_model.specs.Proofs.{IsImplication}
use Rattle.lp_cert.specs.Written.{premise}
use Rattle.lp_cert.specs.declared.work.Task.TheVariants as task
use Rattle.lp_cert.specs.declared.work.Work.{Work}
use Rattle.lp_cert.proofs.work.Work.need.Goals as goal

pub returns-clause-goes : goal.returns-clause-goes
returns-clause-goes c = λ e b g ns h.
    need_goes b c.args.self.now ns c.push.new.self.items c.push-2.new.self.items (tree b c.args.clause.0) c.in-Some.goal c.in-Some.rest c.args.atom c.in_ok-push.ensures.items c.in_ok-push-2.ensures.items (c.in-Some.ensures.later b g) h

pub returns-in_default-clause-turned : goal.returns-in_default-clause-turned
returns-in_default-clause-turned c = λ w g d b h k. c.in_default.ensures.none refl k.0 k.1 (subst (λ t. IsImplication t k.0 k.1) (h.same_terms c.args.clause.0 g.0) k.2)

pub returns-clause-turned : goal.returns-clause-turned
returns-clause-turned c = λ w g d.
    let s = extends_same c.args.bank.now in
    let r = implied_ready c.args.bank.now c.args.clause c.in-Some.goal c.in-Some.rest (c.in-Some.ensures.later c.args.bank.now s) g c.in-Some.ensures.inside.0 c.in-Some.ensures.inside.1 in
    let mid : Work = record { alloc = c.args.self.now.alloc; theory = c.args.self.now.theory; known = c.args.self.now.known; eigens = c.args.self.now.eigens; assumed = c.args.self.now.assumed; tasks = c.push.new.self } in
    goes_to_both c.args.bank.now c.args.bank.now c.args.self.now mid _ (λ b. focusing (tree b c.args.clause.0) (tree b c.args.atom.0)) (λ b. premise) (task.Focus c.in-Some.rest c.args.atom) (task.Prove c.in-Some.goal) s
    (record { theory = refl; eigens = refl; assumed = refl; tasks = c.in_ok-push.ensures.items })
    (record { theory = refl; eigens = refl; assumed = refl; tasks = c.in_ok-push-2.ensures.items }) w (r.1, d) r.0
    (λ b h at. (tree b c.in-Some.goal.0, tree b c.in-Some.rest.0, c.in-Some.ensures.later b h, at))
