use Rattle.lp_cert.proofs.Comparisons.{abs_push}
use Rattle.lp_cert.proofs.Matching.{bodies_follow, plain_push}
use Rattle.lp_cert.proofs.Endings.{no_abs}
use Rattle.lp_term.specs.Nodes.{tree}
use Rattle.std.proofs.Common.{sym}
use Rattle.lp_cert.proofs.form.Comparing.abstraction.Goals as goal

pub returns-in_ok-push-in-Abs-clause-leads : goal.returns-in_ok-push-in-Abs-clause-leads
returns-in_ok-push-in-Abs-clause-leads c = λ e h o.
    let p = abs_push c.args.bank.now c.args.self.now.terms.items c.push.new.self.items c.args.body c.in-Abs.other _ c.in_ok-push-in-Abs.ensures.items c.in-Abs.ensures.tree h in
    (p.0, o, p.1)

pub returns-in_ok-push-in-Abs-clause-follows : goal.returns-in_ok-push-in-Abs-clause-follows
returns-in_ok-push-in-Abs-clause-follows c = λ k a o e. (bodies_follow c.args.bank.now c.args.self.now.terms.items c.push.new.self.items c.args.body c.in-Abs.other _ c.in_ok-push-in-Abs.ensures.items c.in-Abs.ensures.tree a e, o)

pub returns-in_ok-push-in-Abs-clause-plain : goal.returns-in_ok-push-in-Abs-clause-plain
returns-in_ok-push-in-Abs-clause-plain c = plain_push c.args.bank.now c.args.self.now.terms.items c.push.new.self.items c.args.body c.in-Abs.other c.in_ok-push-in-Abs.ensures.items

pub returns-in-App-clause-follows : goal.returns-in-App-clause-follows
returns-in-App-clause-follows c = λ k q. no_abs c.args.bank.now _ (tree c.args.bank.now c.args.right.0) _ c.in-App.field-1.now c.in-App.ensures.within.2 c.in-App.ensures.tree (sym q)
