use Rattle.std.proofs.Common.{◌∙◌, ap, arith, sym, Some, ◌<◌, subst, length}
use Rattle.std.proofs.lemmas.Option.{slice_get-get_or}
use Rattle.lp_cert.proofs.Naming.{found_where}
use Rattle.lp_cert.proofs.Nodewise.{clause_found, none_where, get_inside}
use Rattle.std.proofs.lemmas.Bool.Decides.{nat_tests}
use Rattle.lp_cert.proofs.goal.declared_clause.Goals as goal

pub returns-in-Some-clause-clause : goal.returns-in-Some-clause-clause
returns-in-Some-clause-clause c =
    found_where c.formula_at.result _ _ c.formula_at.ensures.formula (λ made p a b g.
    (c.in-Some.clause.now, slice_get-get_or c.args.clauses.now c.args.place _ c.in-Some.ensures.lookup.3.0 ∙ ap Some (sym c.in-Some.ensures.lookup.1), omega (arith, p.0), p.1 a b g))

pub returns-in-Some-clause-none : goal.returns-in-Some-clause-none
returns-in-Some-clause-none c = none_where c.formula_at.result _ _ c.formula_at.ensures.none (λ f d e l m.
    let same = clause_found d c.in-Some.clause.now _ e (slice_get-get_or c.args.clauses.now c.args.place _ c.in-Some.ensures.lookup.3.0 ∙ ap Some (sym c.in-Some.ensures.lookup.1)) in
    f (subst (λ x. x.formula.0 < length c.args.bank.now.terms) same l) (m ∙ ap (λ x. x.type_vars) same))

pub returns-in-None-clause-none : goal.returns-in-None-clause-none
returns-in-None-clause-none c = λ e d q l m. let k = get_inside c.args.clauses.now c.args.place d q in let z = c.in-None.ensures.lookup.0 in absurd (grind (arith, nat_tests, k, z))
