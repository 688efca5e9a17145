use Rattle.std.proofs.Common.{[], arith, refl}
use Rattle.lp_standard.specs.Constants.{number}
use Rattle.lp_term.specs.Nodes.{tree}
use Rattle.lp_cert.proofs.Beginnings.{sides_later}
use Rattle.lp_cert.proofs.Endings.{count_of_types, two_parts}
use Rattle.lp_cert.proofs.goal.sides.Goals as goal

pub returns-clause-later : goal.returns-clause-later
returns-clause-later c =
    sides_later c.args.bank.now c.args.formula c.in-Some.found.left c.in-Some.found.right c.in-Some.found.constant (number c.args.constant) c.in-Some.found.types.now c.in-Some.ensures.later
    (omega (arith, c.if-found-wanted.false, c.number-wanted.ensures.number)) (omega (arith, c.if-found-ne0.false))

pub returns-in_default-clause-none : goal.returns-in_default-clause-none
returns-in_default-clause-none c = λ e A B q. c.in_default.ensures.none refl (number c.args.constant) [] A B q

pub returns-then-found-wanted-clause-none : goal.returns-then-found-wanted-clause-none
returns-then-found-wanted-clause-none c = λ e A B q.
    let p = two_parts (tree c.args.bank.now c.args.formula.0) _ _ A B c.in-Some.found.constant (number c.args.constant) _ [] c.in-Some.ensures.now q in
    let s = p.0 in
    omega (arith, s, c.if-found-wanted.true, c.number-wanted.ensures.number)

pub returns-then-found-ne0-clause-none : goal.returns-then-found-ne0-clause-none
returns-then-found-ne0-clause-none c = λ e A B q.
    let p = two_parts (tree c.args.bank.now c.args.formula.0) _ _ A B c.in-Some.found.constant (number c.args.constant) _ [] c.in-Some.ensures.now q in
    let s = count_of_types c.args.bank.now c.in-Some.found.types.now [] p.1 in
    omega (arith, s, c.if-found-ne0.true)
