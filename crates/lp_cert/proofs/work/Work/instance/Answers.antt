use Rattle.std.proofs.Common.{◌∙◌, sym, arith, ap, subst, length}
use Rattle.lp_term.proofs.Trees.{extends-trans, extends_same}
use Rattle.lp_cert.proofs.Naming.{named_in, found_always, types_inside, found_where, closed_types_later, types_found}
use Rattle.lp_term.specs.Spine.{LooseBelow}
use Rattle.lp_model.specs.Index.{at, instantiate}
use Rattle.std.specs.Prelude.{suc, ◌-◌}
use Rattle.lp_cert.specs.Same.{terms_in}
use Rattle.lp_cert.proofs.Later.{inside_more}
use Rattle.lp_cert.proofs.Going.{stays_where}
use Rattle.lp_cert.specs.inner.Named.{variable_types}
use Rattle.lp_cert.proofs.Witnesses.{witnesses_on}
use Rattle.lp_cert.proofs.Instances.{count_unnamed, open_unnamed, values_unnamed, loose_unnamed, put_result, query_variables, goal_has, goal_tight, formula_has, found_within}
use Rattle.lp_cert.proofs.work.Work.instance.Goals as goal

pub returns-clause-named : goal.returns-clause-named
returns-clause-named c =
    let closed = sym c.in_ok-are_closed_types.ensures.closed ∙ c.if-not-branch.false in
    let end = extends-trans c.are_values.new.bank c.term_at.new.bank c.put_values.new.bank c.in_ok-formula.ensures.kept c.put_values.ensures.kept in
    found_always c.put_values.result _ (λ e.
    named_in c.args.bank.now c.are_values.new.bank c.put_values.new.bank c.args.self.now.theory.constants.now c.args.query.now c.args.types.now
    c.args.values.now (extends-trans c.args.bank.now c.are_values.new.bank c.put_values.new.bank c.in_ok-are_values.ensures.kept end) end
    (omega (arith, c.if-types-query.false)) closed
    (c.in_ok-are_values.ensures.values c.if-not-branch-2.false e (types_inside c.args.bank.now c.args.types.now closed)))

pub returns-clause-stays : goal.returns-clause-stays
returns-clause-stays c =
    let w = c.are_values.new.self in
    let s = c.in_ok-are_values.ensures.stays in
    stays_where c.put_values.result c.args.self.now (record { alloc = w.alloc; theory = w.theory; known = c.put_values.new.known; eigens = w.eigens; assumed = w.assumed; tasks = w.tasks }) (record { theory = s.theory; eigens = s.eigens; assumed = s.assumed; tasks = s.tasks })

pub returns-clause-filled : goal.returns-clause-filled
returns-clause-filled c =
    let closed = sym c.in_ok-are_closed_types.ensures.closed ∙ c.if-not-branch.false in
    found_where c.put_values.result _ _ c.put_values.ensures.put (λ made p b g.
    let long = extends-trans _ _ _ c.put_values.ensures.kept g in
    let vs = terms_in b c.args.values.now in
    p b g (subst (LooseBelow (length c.args.values.now) 0) (sym (long.same_terms c.in_ok-formula.formula.0 c.in_ok-formula.ensures.within)) (c.in_ok-is_loose_below.ensures.below c.if-not-branch-3.false)) ∙
    ap (instantiate (λ k. at vs (length vs - suc k))) (c.in_ok-formula.ensures.tree
    (inside_more c.args.bank.now c.are_values.new.bank c.args.types.now c.in_ok-are_values.ensures.kept
    (types_inside c.args.bank.now c.args.types.now closed)) (c.is_inside.ensures.inside c.if-not-is_inside.false) b long))

pub returns-then-types-query-clause-unnamed : goal.returns-then-types-query-clause-unnamed
returns-then-types-query-clause-unnamed c = λ e s n i j k. count_unnamed c.args.bank.now c.args.self.now.theory.constants.now c.args.query.now c.args.types.now c.args.values.now (λ q. c.if-types-query.true (omega (arith, q)))

pub returns-then-not-branch-clause-unnamed : goal.returns-then-not-branch-clause-unnamed
returns-then-not-branch-clause-unnamed c = λ e s n i j k.
    open_unnamed c.args.bank.now c.args.bank.now c.args.self.now.theory.constants.now c.args.query.now c.args.types.now c.args.values.now (extends_same c.args.bank.now) j (sym c.in_ok-are_closed_types.ensures.closed ∙ c.if-not-branch.true)

pub returns-then-not-branch-2-clause-unnamed : goal.returns-then-not-branch-2-clause-unnamed
returns-then-not-branch-2-clause-unnamed c = λ e s n i j k.
    values_unnamed c.are_values.new.bank c.args.self.now.theory.constants.now c.args.query.now c.args.types.now c.args.values.now
    (c.in_ok-are_values.ensures.never c.if-not-branch-2.true (record { eigens = s.eigens; constants = s.constants }) n j (query_variables c.args.bank.now c.args.query.now i) k)

pub returns-then-not-is_inside-clause-unnamed : goal.returns-then-not-is_inside-clause-unnamed
returns-then-not-is_inside-clause-unnamed c = λ e s n i j k.
    let l = i.formula in
    let m = c.in_ok-are_values.ensures.kept.more_terms in
    absurd (omega (arith, l, m, c.is_inside.ensures.outside c.if-not-is_inside.true))

pub returns-then-not-branch-3-clause-unnamed : goal.returns-then-not-branch-3-clause-unnamed
returns-then-not-branch-3-clause-unnamed c = λ e s n i j k.
    loose_unnamed c.args.bank.now c.term_at.new.bank c.term_at.new.bank c.args.self.now.theory.constants.now c.args.query.now c.args.types.now c.args.values.now c.in_ok-formula.formula (extends-trans _ _ _ c.in_ok-are_values.ensures.kept c.in_ok-formula.ensures.kept) i
    (c.in_ok-formula.ensures.tree (inside_more c.args.bank.now c.are_values.new.bank c.args.types.now c.in_ok-are_values.ensures.kept j)
    (c.is_inside.ensures.inside c.if-not-is_inside.false) c.term_at.new.bank (extends_same c.term_at.new.bank))
    (c.in_ok-is_loose_below.ensures.above c.if-not-branch-3.true)

pub returns-clause-unnamed : goal.returns-clause-unnamed
returns-clause-unnamed c =
    put_result c.args.bank.now c.term_at.new.bank c.put_values.new.bank c.args.self.now.theory.constants.now c.args.query.now c.args.types.now
    c.args.values.now c.in_ok-formula.formula c.put_values.result _ _ _ _ (extends-trans _ _ _ c.in_ok-are_values.ensures.kept
    c.in_ok-formula.ensures.kept) c.put_values.ensures.kept
    c.in_ok-formula.ensures.within c.put_values.ensures.none

pub returns-clause-within : goal.returns-clause-within
returns-clause-within c = found_within c.put_values.new.bank c.put_values.result _ c.in_ok-formula.ensures.within c.put_values.ensures.within

pub returns-clause-types : goal.returns-clause-types
returns-clause-types c =
    let closed = sym c.in_ok-are_closed_types.ensures.closed ∙ c.if-not-branch.false in
    let far = extends-trans c.args.bank.now _ _ c.in_ok-are_values.ensures.kept c.in_ok-formula.ensures.kept in
    goal_has c.term_at.new.bank c.put_values.new.bank c.args.self.now.theory.constants.now c.args.types.now c.args.values.now (variable_types c.args.query.now) c.in_ok-formula.formula c.put_values.result _ c.put_values.ensures.kept (extends_same c.put_values.new.bank)
    c.in_ok-formula.ensures.within (c.in_ok-is_loose_below.ensures.below c.if-not-branch-3.false)
    (λ e. (witnesses_on c.are_values.new.bank c.put_values.new.bank c.args.self.now.theory.constants.now c.args.types.now c.args.values.now
    (variable_types c.args.query.now) (extends-trans _ _ _ c.in_ok-formula.ensures.kept c.put_values.ensures.kept)
    (c.in_ok-are_values.ensures.values c.if-not-branch-2.false e (types_inside c.args.bank.now c.args.types.now closed))))
    c.put_values.ensures.put
    (formula_has c.term_at.new.bank c.args.types.now c.args.query.now.formula c.in_ok-formula.formula
    (c.in_ok-formula.ensures.tree (inside_more c.args.bank.now c.are_values.new.bank c.args.types.now c.in_ok-are_values.ensures.kept (types_inside c.args.bank.now c.args.types.now closed)) (c.is_inside.ensures.inside c.if-not-is_inside.false) c.term_at.new.bank (extends_same c.term_at.new.bank))
    (closed_types_later c.args.bank.now c.term_at.new.bank c.args.types.now far (types_found c.args.bank.now c.args.types.now closed)))

pub returns-clause-tight : goal.returns-clause-tight
returns-clause-tight c =
    let closed = sym c.in_ok-are_closed_types.ensures.closed ∙ c.if-not-branch.false in
    goal_tight c.term_at.new.bank c.put_values.new.bank c.args.self.now.theory.constants.now c.args.types.now c.args.values.now (variable_types c.args.query.now) c.in_ok-formula.formula c.put_values.result _ c.put_values.ensures.kept (extends_same c.put_values.new.bank)
    c.in_ok-formula.ensures.within (c.in_ok-is_loose_below.ensures.below c.if-not-branch-3.false)
    (λ e. (witnesses_on c.are_values.new.bank c.put_values.new.bank c.args.self.now.theory.constants.now c.args.types.now c.args.values.now
    (variable_types c.args.query.now) (extends-trans _ _ _ c.in_ok-formula.ensures.kept c.put_values.ensures.kept)
    (c.in_ok-are_values.ensures.values c.if-not-branch-2.false e (types_inside c.args.bank.now c.args.types.now closed))))
    c.put_values.ensures.put
