use Rattle.std.proofs.Common.{refl}
use Rattle.lp_lemmas.proofs.Results.{passed_up}
use Rattle.lp_gen.specs.inner.Limiting.{counting_of, IsOver, source_counts}
use Rattle.lp_gen.proofs.LimitsLeft.{clauses_first, goals_first, terms_first, term_same, first_clause_over, first_goal_over, term_over}
use Rattle.lp_gen.proofs.limits.take_up.Goals as goal

pub returns-in_ok-visit_clause-in-Clauses-clause-met : goal.returns-in_ok-visit_clause-in-Clauses-clause-met
returns-in_ok-visit_clause-in-Clauses-clause-met c =
    clauses_first c.args.bank.now c.args.tally.now.look c.in-Clauses.number c.args.tally.now.room c.visit_clause.new.tally.room c.args.work.now.items c.push.new.self.items c.visit_clause.new.work.items
    c.args.source c.in-Clauses.clauses c.in-Some.rest c.in-Some.first.now c.in-Clauses.is c.in-Some.ensures.cases.0 c.in_ok-push-in-Clauses.ensures.items c.in_ok-visit_clause-in-Clauses.ensures.met

pub returns-in_ok-visit_goal-in-Goals-clause-met : goal.returns-in_ok-visit_goal-in-Goals-clause-met
returns-in_ok-visit_goal-in-Goals-clause-met c =
    goals_first c.args.bank.now c.args.tally.now.look c.in-Goals.number c.args.tally.now.room c.args.tally.now.room c.args.work.now.items c.push-in-Goals.new.self.items c.visit_goal.new.work.items
    c.args.source c.in-Goals.goals c.in-Some-split_first.rest c.in-Some-split_first.first.now c.in-Goals.is c.in-Some-split_first.ensures.cases.0 c.in_ok-push-in-Goals.ensures.items
    c.in_ok-visit_goal-in-Goals.ensures.met

pub returns-in_ok-push-in-Terms-2-clause-met : goal.returns-in_ok-push-in-Terms-2-clause-met
returns-in_ok-push-in-Terms-2-clause-met c =
    terms_first c.args.bank.now c.args.tally.now.look c.in-Terms.number c.args.tally.now.room c.args.tally.now.room c.args.work.now.items c.push-in-Terms.new.self.items c.push-in-Terms-2.new.self.items
    c.args.source c.in-Terms.terms c.in-Some-split_first-2.rest c.in-Some-split_first-2.first.now c.in-Terms.is c.in-Some-split_first-2.ensures.cases.0 c.in_ok-push-in-Terms.ensures.items
    c.in_ok-push-in-Terms-2.ensures.items refl

pub returns-in_ok-visit_term-in-Term-clause-met : goal.returns-in_ok-visit_term-in-Term-clause-met
returns-in_ok-visit_term-in-Term-clause-met c =
    term_same c.args.bank.now c.args.tally.now.look c.in-Term.number c.args.tally.now.room c.visit_term.new.tally.room c.args.work.now.items c.args.work.now.items c.visit_term.new.work.items c.args.source
    c.in-Term.term c.in-Term.is c.in_ok-visit_term-in-Term.ensures.met

pub returns-in_err-visit_clause-in-Clauses-clause-cause : goal.returns-in_err-visit_clause-in-Clauses-clause-cause
returns-in_err-visit_clause-in-Clauses-clause-cause c =
    let b = c.args.bank.now in
    let k = c.args.tally.now.look in
    let r = c.args.tally.now.room in
    let e = c.in_err-visit_clause-in-Clauses.field-0.0 in
    passed_up c.from_residual-in_err-visit_clause-in-Clauses.result e (IsOver k r (source_counts b (counting_of k) c.args.source)) c.from_residual-in_err-visit_clause-in-Clauses.ensures.1
    (first_clause_over b k c.in-Clauses.number r c.args.source e c.in-Clauses.clauses c.in-Some.rest c.in-Some.first.now c.in-Clauses.is c.in-Some.ensures.cases.0 c.in_err-visit_clause-in-Clauses.ensures.cause)

pub returns-in_err-visit_goal-in-Goals-clause-cause : goal.returns-in_err-visit_goal-in-Goals-clause-cause
returns-in_err-visit_goal-in-Goals-clause-cause c =
    let b = c.args.bank.now in
    let k = c.args.tally.now.look in
    let r = c.args.tally.now.room in
    let e = c.in_err-visit_goal-in-Goals.field-0.0 in
    passed_up c.from_residual-in_err-visit_goal-in-Goals.result e (IsOver k r (source_counts b (counting_of k) c.args.source)) c.from_residual-in_err-visit_goal-in-Goals.ensures.1
    (first_goal_over b k c.in-Goals.number r c.args.source e c.in-Goals.goals c.in-Some-split_first.rest c.in-Some-split_first.first.now c.in-Goals.is c.in-Some-split_first.ensures.cases.0
    c.in_err-visit_goal-in-Goals.ensures.cause)

pub returns-in_err-visit_term-in-Term-clause-cause : goal.returns-in_err-visit_term-in-Term-clause-cause
returns-in_err-visit_term-in-Term-clause-cause c =
    let b = c.args.bank.now in
    let k = c.args.tally.now.look in
    let r = c.args.tally.now.room in
    let e = c.in_err-visit_term-in-Term.field-0.0 in
    passed_up c.from_residual-in_err-visit_term-in-Term.result e (IsOver k r (source_counts b (counting_of k) c.args.source)) c.from_residual-in_err-visit_term-in-Term.ensures.1
    (term_over b k c.in-Term.number r c.args.source e c.in-Term.term c.in-Term.is c.in_err-visit_term-in-Term.ensures.cause)
