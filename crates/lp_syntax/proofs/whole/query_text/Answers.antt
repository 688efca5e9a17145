use Rattle.lp_fixity.specs.Table.{entry_of}
use Rattle.lp_syntax.specs.Tokens.{lexemes, spot_at}
use Rattle.lp_syntax.proofs.QueryFaults.{query_given}
use Rattle.lp_syntax.proofs.whole.query_text.Goals as goal

pub returns-clause-only : goal.returns-clause-only
returns-clause-only c = query_given (spot_at 0 c.args.source.now c.args.tokens.now) (entry_of c.args.table.now) (lexemes c.args.source.now c.args.tokens.now) c.read_query.result c.read_query.ensures.tree c.read_query.ensures.fault
