use Rattle.std.proofs.Common.{◌∙◌, ap, sym, arith}
use Rattle.lp_calculus.specs.Term.{atom, constant}
use Rattle.lp_term.specs.Nodes.{type_tree, tree}
use Rattle.lp_cert.proofs.Comparisons.{constant_leads, twice}
use Rattle.lp_cert.proofs.Matching.{constant_follows, constants_differ, plain_still}
use Rattle.lp_cert.proofs.Endings.{no_atom}
use Rattle.lp_cert.proofs.form.Comparing.constant.Goals as goal

pub returns-else-number-other-clause-leads : goal.returns-else-number-other-clause-leads
returns-else-number-other-clause-leads c =
    constant_leads c.args.bank.now c.args.self.now c.push_types.new.self c.args.number c.in-Const.other _ _ _ c.push_types.result c.push_types.ensures.one c.push_types.ensures.terms (omega (arith, c.if-number-other.false))
    (ap (λ l. atom (constant c.in-Const.other l)) (sym (twice (type_tree c.args.bank.now) c.in-Const.others.now)) ∙ c.in-Const.ensures.tree)

pub returns-then-number-other-clause-follows : goal.returns-then-number-other-clause-follows
returns-then-number-other-clause-follows c = λ k. constants_differ c.args.number c.in-Const.other _ _ _ (λ e. omega (arith, e, c.if-number-other.true)) c.in-Const.ensures.tree

pub returns-else-number-other-clause-follows : goal.returns-else-number-other-clause-follows
returns-else-number-other-clause-follows c =
    constant_follows c.args.bank.now c.args.self.now c.push_types.new.self c.args.number c.in-Const.other _ _ _ c.push_types.result c.push_types.ensures.follows c.push_types.ensures.terms
    (ap (λ l. atom (constant c.in-Const.other l)) (sym (twice (type_tree c.args.bank.now) c.in-Const.others.now)) ∙ c.in-Const.ensures.tree)

pub returns-else-number-other-clause-plain : goal.returns-else-number-other-clause-plain
returns-else-number-other-clause-plain c = plain_still c.args.bank.now _ _ _ c.push_types.result c.push_types.ensures.terms

pub returns-in-App-clause-follows : goal.returns-in-App-clause-follows
returns-in-App-clause-follows c = λ k q. no_atom c.args.bank.now _ (tree c.args.bank.now c.args.right.0) c.in-App.field-1.now _ c.in-App.ensures.within.2 c.in-App.ensures.tree (sym q)
