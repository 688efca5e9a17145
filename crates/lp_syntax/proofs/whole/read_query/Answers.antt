use Rattle.std.proofs.Common.{◌<◌, ◌+◌, inr, length, arith}
use Rattle.std.proofs.lemmas.Grind.{common_steps}
use Rattle.lp_fixity.specs.Table.{entry_of}
use Rattle.lp_syntax.specs.Tokens.{lexemes, spot_at}
use Rattle.lp_syntax.proofs.Tokens.{length_lexemes}
use Rattle.lp_syntax.proofs.QueryFaults.{passed_query, tail_refused, is_at_dot}
use Rattle.lp_syntax.proofs.whole.read_query.Goals as goal

pub returns-in_err-text-clause-fault : goal.returns-in_err-text-clause-fault
returns-in_err-text-clause-fault c = passed_query (spot_at 0 c.args.source.now c.args.tokens.now) (entry_of c.args.table.now) (lexemes c.args.source.now c.args.tokens.now) c.from_residual.result c.in_err-text.field-0.0 c.from_residual.ensures.1 c.in_err-text.ensures.fault

pub returns-then-end-tokens-clause-fault : goal.returns-then-end-tokens-clause-fault
returns-then-end-tokens-clause-fault c =
    let e = length_lexemes c.args.source.now c.args.tokens.now in
    let l : c.in_ok-text.text.end + 1 < length c.args.tokens.now = grind (arith, common_steps) in
    let d = c.in_ok-text.ensures.term in
    inr (inr (tail_refused (spot_at 0 c.args.source.now c.args.tokens.now) (entry_of c.args.table.now) (lexemes c.args.source.now c.args.tokens.now)
    c.in_ok-text.text.end d.tree _ d.term (is_at_dot (lexemes c.args.source.now c.args.tokens.now) c.in_ok-text.text.end (omega (arith, e, l))
    c.in_ok-text.ensures.over) (omega (arith, e, l)) c.refusal.ensures))
