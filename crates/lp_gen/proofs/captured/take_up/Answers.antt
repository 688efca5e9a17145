use Rattle.lp_gen.proofs.CapturedBy.{clauses_some, goals_some, terms_some, term_same}
use Rattle.lp_gen.proofs.CapturedFrom.{clauses_found, goals_found, terms_found, same_term}
use Rattle.lp_gen.proofs.captured.take_up.Goals as goal

pub returns-in_ok-visit_clause-in-Clauses-clause-marks : goal.returns-in_ok-visit_clause-in-Clauses-clause-marks
returns-in_ok-visit_clause-in-Clauses-clause-marks c =
    clauses_some c.args.bank.now c.args.base c.args.levels.now.keys c.args.levels.now.keys c.args.work.now.items c.visit_clause.new.work.items c.args.place c.in-Clauses.clauses
    c.in-Some.rest c.in-Some.first.now
    c.in-Clauses.depth c.push.new.self.items c.in-Clauses.is c.in-Some.ensures.cases.0 c.in_ok-push-in-Clauses.ensures.items c.in_ok-visit_clause-in-Clauses.ensures.marks

pub returns-in_ok-visit_term-in-Term-clause-marks : goal.returns-in_ok-visit_term-in-Term-clause-marks
returns-in_ok-visit_term-in-Term-clause-marks c =
    term_same c.args.bank.now c.args.base c.args.levels.now.keys c.visit_term.new.levels.keys c.args.work.now.items c.visit_term.new.work.items c.args.place c.in-Term.term c.in-Term.depth c.in-Term.is
    c.in_ok-visit_term-in-Term.ensures.marks

pub returns-in_ok-visit_goal-in-Goals-clause-marks : goal.returns-in_ok-visit_goal-in-Goals-clause-marks
returns-in_ok-visit_goal-in-Goals-clause-marks c =
    goals_some c.args.bank.now c.args.base c.args.levels.now.keys c.args.levels.now.keys c.args.work.now.items c.visit_goal.new.work.items c.args.place c.in-Goals.goals c.in-Some-split_first.rest
    c.in-Some-split_first.first.now c.in-Goals.depth c.push-in-Goals.new.self.items c.in-Goals.is c.in-Some-split_first.ensures.cases.0 c.in_ok-push-in-Goals.ensures.items
    c.in_ok-visit_goal-in-Goals.ensures.marks

pub returns-in_ok-push-in-Terms-2-clause-marks : goal.returns-in_ok-push-in-Terms-2-clause-marks
returns-in_ok-push-in-Terms-2-clause-marks c =
    terms_some c.args.bank.now c.args.base c.args.levels.now.keys c.args.levels.now.keys c.args.work.now.items c.push-in-Terms-2.new.self.items c.args.place c.in-Terms.terms
    c.in-Some-split_first-2.rest
    c.in-Some-split_first-2.first.now c.in-Terms.depth c.push-in-Terms.new.self.items c.in-Terms.is c.in-Some-split_first-2.ensures.cases.0 c.in_ok-push-in-Terms.ensures.items
    c.in_ok-push-in-Terms-2.ensures.items

pub returns-in_ok-visit_clause-in-Clauses-clause-finds : goal.returns-in_ok-visit_clause-in-Clauses-clause-finds
returns-in_ok-visit_clause-in-Clauses-clause-finds c =
    clauses_found c.args.bank.now c.args.base c.args.levels.now.keys c.args.levels.now.keys c.args.work.now.items c.visit_clause.new.work.items c.args.place c.in-Clauses.clauses c.in-Some.rest c.in-Some.first.now c.in-Clauses.depth c.push.new.self.items c.in-Clauses.is c.in-Some.ensures.cases.0
    c.in_ok-push-in-Clauses.ensures.items c.in_ok-visit_clause-in-Clauses.ensures.finds

pub returns-in_ok-visit_term-in-Term-clause-finds : goal.returns-in_ok-visit_term-in-Term-clause-finds
returns-in_ok-visit_term-in-Term-clause-finds c =
    same_term c.args.bank.now c.args.base c.args.levels.now.keys c.visit_term.new.levels.keys c.args.work.now.items c.visit_term.new.work.items c.args.place c.in-Term.term c.in-Term.depth c.in-Term.is
    c.in_ok-visit_term-in-Term.ensures.finds

pub returns-in_ok-visit_goal-in-Goals-clause-finds : goal.returns-in_ok-visit_goal-in-Goals-clause-finds
returns-in_ok-visit_goal-in-Goals-clause-finds c =
    goals_found c.args.bank.now c.args.base c.args.levels.now.keys c.args.levels.now.keys c.args.work.now.items c.visit_goal.new.work.items c.args.place c.in-Goals.goals c.in-Some-split_first.rest c.in-Some-split_first.first.now c.in-Goals.depth c.push-in-Goals.new.self.items c.in-Goals.is
    c.in-Some-split_first.ensures.cases.0 c.in_ok-push-in-Goals.ensures.items c.in_ok-visit_goal-in-Goals.ensures.finds

pub returns-in_ok-push-in-Terms-2-clause-finds : goal.returns-in_ok-push-in-Terms-2-clause-finds
returns-in_ok-push-in-Terms-2-clause-finds c =
    terms_found c.args.bank.now c.args.base c.args.levels.now.keys c.args.levels.now.keys c.args.work.now.items c.push-in-Terms-2.new.self.items c.args.place c.in-Terms.terms c.in-Some-split_first-2.rest c.in-Some-split_first-2.first.now c.in-Terms.depth c.push-in-Terms.new.self.items
    c.in-Terms.is c.in-Some-split_first-2.ensures.cases.0 c.in_ok-push-in-Terms.ensures.items c.in_ok-push-in-Terms-2.ensures.items

pub returns-in_ok-visit_term-in-Term-clause-distinct : goal.returns-in_ok-visit_term-in-Term-clause-distinct
returns-in_ok-visit_term-in-Term-clause-distinct c = c.in_ok-visit_term-in-Term.ensures.distinct
