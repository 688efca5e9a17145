use Rattle.std.proofs.Common.{◌≡◌, ◌∙◌, ◌-◌, ap, arith, length, subst, sym, Some, refl}
use Rattle.std.specs.Prelude.{slice_get}
use Rattle.std.proofs.lemmas.Option.{slice_get-get_or}
use Rattle.lp_term.specs.Nodes.{tree}
use Rattle.lp_cert.proofs.Naming.{found_where}
use Rattle.lp_cert.proofs.Going.{program_clause, assumed_clause}
use Rattle.lp_cert.proofs.Nodewise.{assumed_back, assumed_ready, at_element, declared_ready, found_with, none_where, program_back, get_inside}
use Rattle.lp_term.proofs.Trees.{extends_same}
use Rattle.std.proofs.lemmas.Bool.Decides.{nat_tests}
use Rattle.lp_cert.specs.Standing.{IsClauseInside}
use Rattle.lp_cert.specs.inner.Turned.{IsReady}
use Rattle.lp_cert.proofs.work.Work.clause.Goals as goal

pub returns-then-place-clauses-clause-clause : goal.returns-then-place-clauses-clause-clause
returns-then-place-clauses-clause-clause c =
    found_where c.declared_clause.result _ _ c.declared_clause.ensures.clause (λ made p a b g. program_clause b c.args.self.now c.args.number c.args.types.now (tree b made.0) (p a b g))

pub returns-in-Some-clause-clause : goal.returns-in-Some-clause-clause
returns-in-Some-clause-clause c =
    found_where c.formula_at.result _ _ c.formula_at.ensures.formula (λ made p a b g.
    assumed_clause b c.args.self.now c.args.number (c.args.number - length c.args.self.now.theory.clauses.now) c.args.types.now c.in-Some.formula.now (tree b made.0) (omega (arith, c.if-place-clauses.false))
    (subst (λ l. slice_get l (c.args.number - length c.args.self.now.theory.clauses.now) ≡ Some c.in-Some.formula.now) c.deref.ensures.value (slice_get-get_or c.deref.result.now _ _ c.in-Some.ensures.lookup.3.0 ∙ ap Some (sym c.in-Some.ensures.lookup.1)))
    p.0 (p.1 a b g))

pub returns-then-place-clauses-clause-ready : goal.returns-then-place-clauses-clause-ready
returns-then-place-clauses-clause-ready c =
    found_with c.declared_clause.result _ _ _ c.declared_clause.ensures.within c.declared_clause.ensures.clause (λ made l f w k.
    declared_ready c.args.bank.now _ c.args.self.now.theory.clauses.now c.args.number c.args.types.now made c.declared_clause.ensures.kept w.clauses k l f (extends_same _))

pub returns-then-place-clauses-clause-none : goal.returns-then-place-clauses-clause-none
returns-then-place-clauses-clause-none c =
    none_where c.declared_clause.result _ _ c.declared_clause.ensures.none (λ f w i b h t k.
    let q = program_back b c.args.self.now.theory c.args.self.now.assumed.items c.args.number c.args.types.now t (omega (arith, c.if-place-clauses.true)) k in
    f q.0 q.1 (at_element (IsClauseInside c.args.bank.now) c.args.self.now.theory.clauses.now c.args.number q.0 q.1 w.clauses).0 q.2)

pub returns-in-Some-clause-ready : goal.returns-in-Some-clause-ready
returns-in-Some-clause-ready c =
    found_with c.formula_at.result _ _ _ c.formula_at.ensures.within c.formula_at.ensures.formula (λ made l f w k.
    assumed_ready c.args.bank.now _ c.args.self.now.assumed.items (c.args.number - length c.args.self.now.theory.clauses.now) c.in-Some.formula.now made c.args.types.now c.formula_at.ensures.kept w.assumed
    (subst (λ l. slice_get l (c.args.number - length c.args.self.now.theory.clauses.now) ≡ Some c.in-Some.formula.now) c.deref.ensures.value (slice_get-get_or c.deref.result.now _ _ c.in-Some.ensures.lookup.3.0 ∙ ap Some (sym c.in-Some.ensures.lookup.1))) k l f.1 (extends_same _))

pub returns-in-Some-clause-none : goal.returns-in-Some-clause-none
returns-in-Some-clause-none c =
    none_where c.formula_at.result _ _ c.formula_at.ensures.none (λ f w i b h t k.
    let q = assumed_back b c.args.self.now.theory c.args.self.now.assumed.items c.args.number (c.args.number - length c.args.self.now.theory.clauses.now) c.args.types.now t (omega (arith, c.if-place-clauses.false)) k in
    let e = subst (λ l. slice_get l (c.args.number - length c.args.self.now.theory.clauses.now) ≡ Some c.in-Some.formula.now) c.deref.ensures.value (slice_get-get_or c.deref.result.now _ _ c.in-Some.ensures.lookup.3.0 ∙ ap Some (sym c.in-Some.ensures.lookup.1)) in
    f (at_element (IsReady c.args.bank.now) c.args.self.now.assumed.items (c.args.number - length c.args.self.now.theory.clauses.now) c.in-Some.formula.now e w.assumed).0 (omega (arith, q.2)))

pub returns-in-None-clause-none : goal.returns-in-None-clause-none
returns-in-None-clause-none c = λ e w i b h t k.
    let q = assumed_back b c.args.self.now.theory c.args.self.now.assumed.items c.args.number (c.args.number - length c.args.self.now.theory.clauses.now) c.args.types.now t (omega (arith, c.if-place-clauses.false)) k in
    let k = get_inside c.args.self.now.assumed.items (c.args.number - length c.args.self.now.theory.clauses.now) q.0 q.1 in
    let z = c.in-None.ensures.lookup.0 in
    let v = ap length c.deref.ensures.value in
    absurd (grind (arith, nat_tests, k, z, v))
