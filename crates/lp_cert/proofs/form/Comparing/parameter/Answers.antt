use Rattle.std.proofs.Common.{arith, sym}
use Rattle.lp_cert.proofs.Matching.{parameter_follows, parameters_differ, plain_still}
use Rattle.lp_cert.proofs.Endings.{no_atom}
use Rattle.lp_term.specs.Nodes.{tree}
use Rattle.lp_cert.proofs.form.Comparing.parameter.Goals as goal

pub returns-then-number-other-clause-follows : goal.returns-then-number-other-clause-follows
returns-then-number-other-clause-follows c = λ k. parameters_differ c.args.number c.in-Param.other _ _ _ (λ e. omega (arith, e, c.if-number-other.true)) c.in-Param.ensures.tree

pub returns-else-number-other-clause-follows : goal.returns-else-number-other-clause-follows
returns-else-number-other-clause-follows c = parameter_follows c.args.bank.now c.args.self.now c.push_type.new.self c.args.number c.in-Param.other _ _ _ c.push_type.result c.push_type.ensures.follows c.push_type.ensures.terms c.in-Param.ensures.tree

pub returns-else-number-other-clause-plain : goal.returns-else-number-other-clause-plain
returns-else-number-other-clause-plain c = plain_still c.args.bank.now _ _ _ c.push_type.result c.push_type.ensures.terms

pub returns-in-App-clause-follows : goal.returns-in-App-clause-follows
returns-in-App-clause-follows c = λ k q. no_atom c.args.bank.now _ (tree c.args.bank.now c.args.right.0) c.in-App.field-1.now _ c.in-App.ensures.within.2 c.in-App.ensures.tree (sym q)
