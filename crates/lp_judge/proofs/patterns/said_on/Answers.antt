use Rattle.std.proofs.Common.{◌<◌, length, refl, subst, sym}
use Rattle.lp_term.specs.Nodes.{tree}
use Rattle.lp_judge.proofs.Telling.{line_of_yes, line_of_clause, line_of_query, place_there}
use Rattle.lp_judge.proofs.patterns.said_on.Goals as goal

pub returns-in_ok-line-in-Yes : goal.returns-in_ok-line-in-Yes
returns-in_ok-line-in-Yes c = line_of_yes _ _ _ _ _ c.in_ok-survey.field-0 refl refl c.in-Yes.is c.in_ok-survey.ensures.verdict (c.in_ok-line-in-Yes.ensures.items_if_clones_equal (λ x y h. h))

pub clause_line-requires : goal.clause_line-requires
clause_line-requires c =
    subst (λ z. c.in-Clause.place < length z) (sym c.in_ok-survey.ensures.modules)
    (place_there c.args.modules.now (tree c.args.bank.now c.args.query.now.formula.0) c.in-Clause.place c.in-Clause.number (rw c.in-Clause.is at c.in_ok-survey.ensures.verdict))

pub returns-in_ok-line-in-Clause : goal.returns-in_ok-line-in-Clause
returns-in_ok-line-in-Clause c =
    line_of_clause _ _ _ _ _ _ c.in_ok-survey.field-0 c.in-Clause.place c.in-Clause.number refl c.in_ok-survey.ensures.modules refl
    c.in-Clause.is c.in_ok-survey.ensures.verdict c.in_ok-line-in-Clause.ensures

pub returns-in_ok-line-in-Query : goal.returns-in_ok-line-in-Query
returns-in_ok-line-in-Query c = line_of_query _ _ _ _ _ c.in_ok-survey.field-0 refl refl c.in-Query.is c.in_ok-survey.ensures.verdict (c.in_ok-line-in-Query.ensures.items_if_clones_equal (λ x y h. h))
