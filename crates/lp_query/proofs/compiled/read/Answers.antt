use Rattle.std.proofs.Common.{subst}
use Rattle.lp_fixity.specs.Table.{entry_of}
use Rattle.lp_syntax.specs.Tokens.{lexemes, spot_at}
use Rattle.lp_syntax.specs.Queries.{IsQueryText}
use Rattle.lp_query.proofs.compiled.read.Goals as goal

pub returns-clause-text : goal.returns-clause-text
returns-clause-text c =
    (c.in_ok-tokens.tokens.items, (c.in_ok-tokens.ensures, subst (λ ts. IsQueryText (spot_at 0 c.args.query.now ts) (entry_of c.args.seen.now.table) (lexemes c.args.query.now ts) c.in_ok-raw.raw) c.as_slice.ensures.value c.in_ok-raw.ensures.tree))
