use Rattle.std.proofs.Common.{subst}
use Rattle.std.specs.Prelude.{MatchOption}
use Rattle.lp_lambda.specs.First.{terms_of, ArePatternClauses, IsFirstClause}
use Rattle.lp_lambda.proofs.first.first_of.Goals as goal

pub returns : goal.returns
returns c =
    let b = c.args.among.now.bank in
    subst (λ z. MatchOption c.in_ok-found.found (ArePatternClauses (terms_of b z)) (IsFirstClause (terms_of b z))) c.as_slice.ensures.value c.in_ok-found.ensures
