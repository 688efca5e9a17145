use Rattle.std.proofs.Common.{◌∙◌, subst}
use Rattle.std.specs.Bool.{Decides}
use Rattle.lp_term.specs.Nodes.{tree}
use Rattle.lp_term.specs.Same.{same_map}
use Rattle.lp_term.proofs.MapLaws.{same_term, same_is_map}
use Rattle.lp_lambda.specs.Pattern.{IsPatternClause}
use Rattle.lp_lambda.proofs.first.is_pattern_clause.Goals as goal

pub returns : goal.returns
returns c =
    let b = c.args.bank.now in
    let d = c.new-scratch.result in
    let t = tree b c.args.clause.now.formula.0 in
    subst (λ z. Decides c.in_ok-judged.judged (IsPatternClause z)) (c.in_ok-formula.ensures.made same_map (same_is_map b d) (c.new-copied.ensures same_map b d) ∙ same_term t) c.in_ok-judged.ensures.judged
