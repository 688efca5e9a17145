use Rattle.std.proofs.Common.{inl, inr}
use Rattle.lp_lines.proofs.Placing.{source_weaker}
use Rattle.lp_judge.proofs.Negations.{all_without}
use Rattle.lp_judge.proofs.unsupported.first_not.Goals as goal

pub returns-in-Err-clause-placed : goal.returns-in-Err-clause-placed
returns-in-Err-clause-placed c = λ told h. source_weaker _ _ (λ line k. inl k) c.in-Err.refusal (c.in-Err.ensures.placed told h)

pub returns-in-Err-without_not_in_query-clause-placed : goal.returns-in-Err-without_not_in_query-clause-placed
returns-in-Err-without_not_in_query-clause-placed c = λ told h. source_weaker _ _ (λ line k. inr k) c.in-Err-without_not_in_query.refusal c.in-Err-without_not_in_query.ensures.placed

pub returns-in-Err-clause-first : goal.returns-in-Err-clause-first
returns-in-Err-clause-first c = λ read. c.in-Err.ensures.first read c.args.query.now

pub returns-in-Ok-without_not_in_query-clause-none : goal.returns-in-Ok-without_not_in_query-clause-none
returns-in-Ok-without_not_in_query-clause-none c = λ read. all_without c.args.sources.now.files.items c.args.query.now (c.in-Ok.ensures.none read) c.in-Ok-without_not_in_query.ensures.none
