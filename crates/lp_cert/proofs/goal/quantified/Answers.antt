use Rattle.std.proofs.Common.{[], ◌∷◌, arith, refl}
use Rattle.lp_standard.specs.Constants.{number}
use Rattle.lp_term.specs.Nodes.{tree}
use Rattle.lp_cert.proofs.Beginnings.{on_one_type}
use Rattle.lp_cert.proofs.Endings.{count_of_types, one_parts}
use Rattle.lp_cert.proofs.goal.quantified.Goals as goal

pub returns-clause-later : goal.returns-clause-later
returns-clause-later c = λ b g.
    on_one_type b (tree b c.args.formula.0) (tree b c.in-Some.found.on.0) c.in-Some.found.constant _ c.in-Some.found.types.now (c.in-Some.ensures.later b g)
    (omega (arith, c.if-found-wanted.false, c.number-wanted.ensures.number)) (omega (arith, c.if-found-ne1.false))

pub returns-in_default-clause-none : goal.returns-in_default-clause-none
returns-in_default-clause-none c = λ e T s q. c.in_default.ensures.none refl (number c.args.quantifier) (T ∷ []) s q

pub returns-then-found-wanted-clause-none : goal.returns-then-found-wanted-clause-none
returns-then-found-wanted-clause-none c = λ e T s q.
    let p = one_parts (tree c.args.bank.now c.args.formula.0) _ s c.in-Some.found.constant (number c.args.quantifier) _ (T ∷ []) c.in-Some.ensures.now q in
    let k = p.0 in
    omega (arith, k, c.if-found-wanted.true, c.number-wanted.ensures.number)

pub returns-then-found-ne1-clause-none : goal.returns-then-found-ne1-clause-none
returns-then-found-ne1-clause-none c = λ e T s q.
    let p = one_parts (tree c.args.bank.now c.args.formula.0) _ s c.in-Some.found.constant (number c.args.quantifier) _ (T ∷ []) c.in-Some.ensures.now q in
    let k = count_of_types c.args.bank.now c.in-Some.found.types.now (T ∷ []) p.1 in
    omega (arith, k, c.if-found-ne1.true)
