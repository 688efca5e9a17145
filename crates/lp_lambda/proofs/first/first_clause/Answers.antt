use Rattle.std.proofs.Common.{get_or, arith, subst}
use Rattle.std.proofs.lemmas.Bool.Decides.{not_from_Decides}
use Rattle.std.proofs.lemmas.Option.{slice_get-get_or}
use Rattle.lp_term.specs.Nodes.{tree}
use Rattle.lp_term.proofs.Knowing.{take_whole}
use Rattle.lp_lambda.specs.Pattern.{IsPatternClause}
use Rattle.lp_lambda.specs.First.{terms_of, ArePatternClauses}
use Rattle.lp_lambda.proofs.Surveying.{taken_more, first_clause_at}
use Rattle.lp_lambda.proofs.first.first_clause.Goals as goal

pub returns-then-not-keeps : goal.returns-then-not-keeps
returns-then-not-keeps c =
    let xs = c.args.clauses.now in
    let i = c.loop-place.place in
    let x = get_or xs i (record { type_vars = 0; formula = record { 0 = 0 } }) in
    let l = c.loop-place-test.true in
    first_clause_at (λ y. tree c.args.bank.now y.formula.0) xs i c.in_ok-number.number x (slice_get-get_or xs i (record { type_vars = 0; formula = record { 0 = 0 } }) (omega (arith, l))) (omega (arith, l)) c.in_ok-number.ensures
    c.loop-place.invariant (not_from_Decides c.in_ok-keeps.keeps c.in_ok-keeps.ensures c.if-not-keeps.true)

pub loop-place-preserved : goal.loop-place-preserved
loop-place-preserved c =
    let xs = c.args.clauses.now in
    let i = c.loop-place.place in
    let x = get_or xs i (record { type_vars = 0; formula = record { 0 = 0 } }) in
    let l = c.loop-place-test.true in
    taken_more (λ y. tree c.args.bank.now y.formula.0) xs i x (slice_get-get_or xs i (record { type_vars = 0; formula = record { 0 = 0 } }) (omega (arith, l))) IsPatternClause c.loop-place.invariant (c.in_ok-keeps.ensures.0 c.if-not-keeps.false)

pub returns : goal.returns
returns c =
    let l = c.loop-place-test.false in
    subst (λ z. ArePatternClauses (terms_of c.args.bank.now z)) (take_whole c.args.clauses.now c.loop-place.place (omega (arith, l))) c.loop-place.invariant
