use Rattle.lp_lines.proofs.refused.query_refused.Goals as goal

pub returns-in-Tokens-clause-placed : goal.returns-in-Tokens-clause-placed
returns-in-Tokens-clause-placed g = g.without_tokens.ensures.placed g.args.text.now (rw g.in-Tokens.is at g.requires)
