use Rattle.std.proofs.Common.{IfOk, subst}
use Rattle.lp_term.specs.Nodes.{tree}
use Rattle.lp_judge.specs.Judged.{IsVerdictLine}
use Rattle.lp_judge.proofs.patterns.verdict_on.Goals as goal

pub returns : goal.returns
returns c =
    subst (λ ms. IfOk c.said_on.result (λ told. IsVerdictLine ms (tree c.args.texts.bank c.args.texts.query.formula.0) told.line.items told.status))
    c.as_mut_slice.ensures.value c.said_on.ensures
