use Rattle.std.proofs.Common.{refl, sym, ap, ◌∙◌, map, length, arith}
use Rattle.lp_term.specs.Nodes.{type_tree}
use Rattle.lp_model.specs.Flat.{Either, Exists, Forall, assuming, denied}
use Rattle.lp_model.specs.Flattened.{goal_of, goals_of, clauses_of}
use Rattle.lp_normal.specs.Within.{highest, term_bound, clause_term_bound}
use Rattle.lp_normal.proofs.Meanings.{atom_is, cut_is, either_is, some_is, all_is, assume_is, not_is, atom_terms, either_terms, some_terms, all_terms, assume_terms, not_terms}
use Rattle.lp_plain.proofs.Tabled.{put_nothing, put_as, goal_put}
use Rattle.lp_plain.proofs.Within.{stays_same, stays_by}
use Rattle.lp_plain.proofs.table.Table.flattened.Goals as goal

pub returns-in-Atom-clause-put : goal.returns-in-Atom-clause-put
returns-in-Atom-clause-put c =
    let b = c.args.bank.now in
    goal_put b _ _ _ _ _ _ _ (ap (goal_of b) c.in-Atom.is ∙ atom_is b c.in-Atom.term) (put_nothing b _ _ _ _ (omega arith) (c.in-Atom.term, refl, refl))

pub returns-in-Cut-clause-put : goal.returns-in-Cut-clause-put
returns-in-Cut-clause-put c =
    let b = c.args.bank.now in
    goal_put b _ _ _ _ _ _ _ (ap (goal_of b) c.in-Cut.is ∙ cut_is b) (put_nothing b _ _ _ _ (omega arith) refl)

pub returns-in_ok-flat-in-Either-clause-put : goal.returns-in_ok-flat-in-Either-clause-put
returns-in_ok-flat-in-Either-clause-put c =
    let b = c.args.bank.now in
    let l = c.in-Either.left in
    let r = c.in-Either.right in
    let e = ap (λ x. Either (goals_of b x) (goals_of b r.items)) (sym c.as_slice.ensures.value) ∙ ap (λ x. Either (goals_of b c.as_slice.result.now) (goals_of b x)) (sym c.as_slice-in-Either.ensures.value) in
    goal_put b _ _ _ _ _ _ _ (ap (goal_of b) c.in-Either.is ∙ either_is b l r ∙ e) (c.in_ok-flat-in-Either.ensures.put b)

pub returns-in_ok-list-in-Some-clause-put : goal.returns-in_ok-list-in-Some-clause-put
returns-in_ok-list-in-Some-clause-put c =
    let b = c.args.bank.now in
    let T = c.in-Some.field-0 in
    goal_put b _ _ _ _ _ _ _ (ap (goal_of b) c.in-Some.is ∙ some_is b T c.in-Some.goals ∙ ap (λ x. Exists (type_tree b T.0) (goals_of b x)) (sym c.as_slice-in-Some.ensures.value))
    (put_as b _ _ _ _ _ _ _ _ (c.in_ok-list-in-Some.ensures.put b) (omega arith) (λ c' t h. (c.in_ok-list-in-Some.list, refl, h)))

pub returns-in_ok-list-in-All-clause-put : goal.returns-in_ok-list-in-All-clause-put
returns-in_ok-list-in-All-clause-put c =
    let b = c.args.bank.now in
    let T = c.in-All.field-0 in
    goal_put b _ _ _ _ _ _ _ (ap (goal_of b) c.in-All.is ∙ all_is b T c.in-All.goals ∙ ap (λ x. Forall (type_tree b T.0) (goals_of b x)) (sym c.as_slice-in-All.ensures.value))
    (put_as b _ _ _ _ _ _ _ _ (c.in_ok-list-in-All.ensures.put b) (omega arith) (λ c' t h. (c.in_ok-list-in-All.list, refl, h)))

pub returns-in_ok-flat-in-Assume-clause-put : goal.returns-in_ok-flat-in-Assume-clause-put
returns-in_ok-flat-in-Assume-clause-put c =
    let b = c.args.bank.now in
    let cs = c.in-Assume.clauses in
    let gs = c.in-Assume.goals in
    let e =
    ap (λ x. assuming (clauses_of b x) (goals_of b gs.items)) (sym c.as_slice-in-Assume.ensures.value) ∙ ap (λ x. assuming (clauses_of b c.as_slice-in-Assume.result.now) (goals_of b x)) (sym c.as_slice-in-Assume-2.ensures.value) in
    goal_put b _ _ _ _ _ _ _ (ap (goal_of b) c.in-Assume.is ∙ assume_is b cs gs ∙ e) c.in_ok-flat-in-Assume.ensures.put

pub returns-in_ok-flat-in-Not-clause-put : goal.returns-in_ok-flat-in-Not-clause-put
returns-in_ok-flat-in-Not-clause-put c =
    let b = c.args.bank.now in
    goal_put b _ _ _ _ _ _ _ (ap (goal_of b) c.in-Not.is ∙ not_is b c.in-Not.goals ∙ ap (λ x. denied (goals_of b x)) (sym c.as_slice-in-Not.ensures.value)) c.in_ok-flat-in-Not.ensures.put

pub returns-in-Atom-clause-within : goal.returns-in-Atom-clause-within
returns-in-Atom-clause-within c = stays_same _ _ _ _

pub returns-in-Atom-clause-flat : goal.returns-in-Atom-clause-flat
returns-in-Atom-clause-flat c = λ h. let e = ap term_bound c.in-Atom.is ∙ atom_terms c.in-Atom.term in omega (arith, h, e)

pub returns-in-Cut-clause-within : goal.returns-in-Cut-clause-within
returns-in-Cut-clause-within c = stays_same _ _ _ _

pub returns-in-Cut-clause-flat : goal.returns-in-Cut-clause-flat
returns-in-Cut-clause-flat c = λ h. tt

pub returns-in_ok-flat-in-Either-clause-within : goal.returns-in_ok-flat-in-Either-clause-within
returns-in_ok-flat-in-Either-clause-within c =
    let n = length c.args.bank.now.terms in
    let e = ap term_bound c.in-Either.is ∙ either_terms c.in-Either.left c.in-Either.right in
    let l = ap (λ x. highest (map term_bound x)) c.as_slice.ensures.value in
    let r = ap (λ x. highest (map term_bound x)) c.as_slice-in-Either.ensures.value in
    stays_by n _ _ _ _ _ _ (λ h. omega (arith, h, e, l, r)) (c.in_ok-flat-in-Either.ensures.within n)

pub returns-in_ok-flat-in-Either-clause-flat : goal.returns-in_ok-flat-in-Either-clause-flat
returns-in_ok-flat-in-Either-clause-flat c = λ h. c.in_ok-flat-in-Either.ensures.flat (length c.args.bank.now.terms)

pub returns-in_ok-list-in-Some-clause-within : goal.returns-in_ok-list-in-Some-clause-within
returns-in_ok-list-in-Some-clause-within c =
    let n = length c.args.bank.now.terms in
    let e = ap term_bound c.in-Some.is ∙ some_terms c.in-Some.field-0 c.in-Some.goals in
    let l = ap (λ x. highest (map term_bound x)) c.as_slice-in-Some.ensures.value in
    stays_by n _ _ _ _ _ _ (λ h. omega (arith, h, e, l)) (c.in_ok-list-in-Some.ensures.within n)

pub returns-in_ok-list-in-Some-clause-flat : goal.returns-in_ok-list-in-Some-clause-flat
returns-in_ok-list-in-Some-clause-flat c = λ h. tt

pub returns-in_ok-list-in-All-clause-within : goal.returns-in_ok-list-in-All-clause-within
returns-in_ok-list-in-All-clause-within c =
    let n = length c.args.bank.now.terms in
    let e = ap term_bound c.in-All.is ∙ all_terms c.in-All.field-0 c.in-All.goals in
    let l = ap (λ x. highest (map term_bound x)) c.as_slice-in-All.ensures.value in
    stays_by n _ _ _ _ _ _ (λ h. omega (arith, h, e, l)) (c.in_ok-list-in-All.ensures.within n)

pub returns-in_ok-list-in-All-clause-flat : goal.returns-in_ok-list-in-All-clause-flat
returns-in_ok-list-in-All-clause-flat c = λ h. tt

pub returns-in_ok-flat-in-Assume-clause-within : goal.returns-in_ok-flat-in-Assume-clause-within
returns-in_ok-flat-in-Assume-clause-within c =
    let n = length c.args.bank.now.terms in
    let e = ap term_bound c.in-Assume.is ∙ assume_terms c.in-Assume.clauses c.in-Assume.goals in
    let l = ap (λ x. highest (map clause_term_bound x)) c.as_slice-in-Assume.ensures.value in
    let r = ap (λ x. highest (map term_bound x)) c.as_slice-in-Assume-2.ensures.value in
    stays_by n _ _ _ _ _ _ (λ h. omega (arith, h, e, l, r)) c.in_ok-flat-in-Assume.ensures.within

pub returns-in_ok-flat-in-Assume-clause-flat : goal.returns-in_ok-flat-in-Assume-clause-flat
returns-in_ok-flat-in-Assume-clause-flat c = λ h. c.in_ok-flat-in-Assume.ensures.flat (length c.args.bank.now.terms)

pub returns-in_ok-flat-in-Not-clause-within : goal.returns-in_ok-flat-in-Not-clause-within
returns-in_ok-flat-in-Not-clause-within c =
    let n = length c.args.bank.now.terms in
    let e = ap term_bound c.in-Not.is ∙ not_terms c.in-Not.goals in
    let l = ap (λ x. highest (map term_bound x)) c.as_slice-in-Not.ensures.value in
    stays_by n _ _ _ _ _ _ (λ h. omega (arith, h, e, l)) c.in_ok-flat-in-Not.ensures.within

pub returns-in_ok-flat-in-Not-clause-flat : goal.returns-in_ok-flat-in-Not-clause-flat
returns-in_ok-flat-in-Not-clause-flat c = λ h. c.in_ok-flat-in-Not.ensures.flat (length c.args.bank.now.terms)
