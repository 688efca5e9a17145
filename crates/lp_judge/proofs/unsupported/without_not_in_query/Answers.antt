use Rattle.std.proofs.Common.{refl, subst}
use Rattle.std.specs.Prelude.{codes}
use Rattle.lp_lines.specs.Placed.{SaysOf}
use Rattle.lp_judge.specs.Negated.{HasFirst}
use Rattle.lp_judge.proofs.Negations.{query_tells}
use Rattle.lp_judge.proofs.unsupported.without_not_in_query.Goals as goal

pub query_refused-requires : goal.query_refused-requires
query_refused-requires c = c.named-cause.ensures.message c.as_bytes-in-Ok-Some.result.now

pub returns-in-Ok-Some-clause-first : goal.returns-in-Ok-Some-clause-first
returns-in-Ok-Some-clause-first c = λ files none.
    query_tells files c.args.query.now c.in-Ok-Some.token _ c.named-cause.result c.query_refused.result c.named-cause.ensures.text refl refl c.spot_of.ensures
    (subst (λ q. HasFirst q c.in-Ok-Some.token) c.as_bytes.ensures.value (rw c.in-Ok-Some.field-0-is at c.in-Ok-Some.ensures))
    (subst (λ q. SaysOf (codes "query") q c.named-cause.result c.query_refused.result) c.as_bytes-in-Ok-Some.ensures.value c.query_refused.ensures.says) none
