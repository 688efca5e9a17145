use Rattle.std.proofs.Common.{subst}
use Rattle.lp_fixity.specs.Table.{entry_of}
use Rattle.lp_syntax.specs.Queries.{IsQueryRefusal}
use Rattle.lp_syntax.specs.Tokens.{lexemes, spot_at}
use Rattle.lp_load.specs.Refused.{of_tokens, of_tree}
use Rattle.lp_load.proofs.Asking.{read_as}
use Rattle.lp_load.proofs.query.read.Goals as goal

pub returns-clause-refused : goal.returns-clause-refused
returns-clause-refused g = g.of_syntax.ensures.cause g.args.text.now

pub returns-in-Ok-query_text-clause-read : goal.returns-in-Ok-query_text-clause-read
returns-in-Ok-query_text-clause-read g = read_as _ _ _ _ _ g.in-Ok.ensures g.deref.ensures.value g.in-Ok-query_text.ensures.tree

pub returns-in-Err-clause-cause : goal.returns-in-Err-clause-cause
returns-in-Err-clause-cause c = of_tokens c.in-Err.fault c.in-Err.ensures

pub returns-clause-cause : goal.returns-clause-cause
returns-clause-cause c =
    let text = c.args.text.now in
    of_tree c.in-Ok.tokens.items c.in-Err-query_text.fault c.of_syntax.result c.in-Ok.ensures
    (subst (λ ts. IsQueryRefusal (spot_at 0 text ts) (entry_of c.args.built.now.table) (lexemes text ts) c.in-Err-query_text.fault) c.deref.ensures.value c.in-Err-query_text.ensures.fault)
    c.of_syntax.ensures.tells
