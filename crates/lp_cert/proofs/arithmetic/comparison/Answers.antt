use Rattle.std.proofs.Common.{arith, [], refl}
use Rattle.lp_term.specs.Nodes.{tree}
use Rattle.lp_cert.proofs.Beginnings.{at_no_type}
use Rattle.std.proofs.Common.{refl}
use Rattle.lp_cert.proofs.Endings.{count_of_types, two_parts}
use Rattle.lp_cert.proofs.arithmetic.comparison.Goals as goal

pub returns-clause-later : goal.returns-clause-later
returns-clause-later c = λ b g.
    at_no_type b (tree b c.args.formula.0) (tree b c.in-Some.found.left.0) (tree b c.in-Some.found.right.0) c.in-Some.found.constant c.in-Some.found.constant c.in-Some.found.types.now (c.in-Some.ensures.later b g)
    refl (omega (arith, c.if-found-ne0.false))

pub returns-in_default-clause-none : goal.returns-in_default-clause-none
returns-in_default-clause-none c = λ e n A B l m q. c.in_default.ensures.none refl n [] A B q

pub returns-then-found-first-clause-none : goal.returns-then-found-first-clause-none
returns-then-found-first-clause-none c = λ e n A B l m q.
    let p = two_parts (tree c.args.bank.now c.args.formula.0) _ _ A B c.in-Some.found.constant n _ [] c.in-Some.ensures.now q in
    let s = p.0 in
    let f = c.number-first.ensures.number in
    omega (arith, s, l, f, c.if-found-first.true)

pub returns-then-last-found-clause-none : goal.returns-then-last-found-clause-none
returns-then-last-found-clause-none c = λ e n A B l m q.
    let p = two_parts (tree c.args.bank.now c.args.formula.0) _ _ A B c.in-Some.found.constant n _ [] c.in-Some.ensures.now q in
    let s = p.0 in
    let f = c.number-last.ensures.number in
    omega (arith, s, m, f, c.if-last-found.true)

pub returns-then-found-ne0-clause-none : goal.returns-then-found-ne0-clause-none
returns-then-found-ne0-clause-none c = λ e n A B l m q.
    let p = two_parts (tree c.args.bank.now c.args.formula.0) _ _ A B c.in-Some.found.constant n _ [] c.in-Some.ensures.now q in
    let s = count_of_types c.args.bank.now c.in-Some.found.types.now [] p.1 in
    omega (arith, s, c.if-found-ne0.true)
