use Rattle.std.proofs.Common.{inl, inr}
use Rattle.lp_lines.proofs.Looking.{looked_judged, text_judged}
use Rattle.lp_lines.proofs.Placing.{source_weaker, sources_weaker}
use Rattle.lp_solve.specs.Solved.{of_texts}
use Rattle.lp_solve.proofs.Refused.{refused_by_query}
use Rattle.lp_solve.proofs.prepare.prepare.Goals as goal

pub returns-in-Ok-clause-ready : goal.returns-in-Ok-clause-ready
returns-in-Ok-clause-ready g c = λ known. c.start.ensures.ready (g.F.Folder.held c.args.folder.now) (c.in-Ok.ensures.program known)

pub returns-in-Ok-clause-refusal : goal.returns-in-Ok-clause-refusal
returns-in-Ok-clause-refusal g c =
    λ known. refused_by_query (g.F.Folder.held c.args.folder.now) c.args.question.name.now c.args.question.query.now c.in-Ok.built c.start.result
    (c.in-Ok.ensures.program known) c.start.ensures.refused c.start.ensures.placed c.start.ensures.cause

pub returns-in-Err-clause-refusal : goal.returns-in-Err-clause-refusal
returns-in-Err-clause-refusal g c = λ known. of_texts c.in-Err.refusal (c.in-Err.ensures.cause known) c.in-Err.ensures.refused (c.in-Err.ensures.placed known)

pub returns-in-Ok-clause-looked : goal.returns-in-Ok-clause-looked
returns-in-Ok-clause-looked g c = looked_judged c.start.result c.in-Ok.ensures.looked (text_judged c.start.result c.start.ensures.refused)

pub returns-in-Ok-clause-placed : goal.returns-in-Ok-clause-placed
returns-in-Ok-clause-placed g c = λ known. sources_weaker _ _ (λ line h. inr h) c.start.result c.start.ensures.placed

pub returns-in-Err-clause-placed : goal.returns-in-Err-clause-placed
returns-in-Err-clause-placed g c = λ known. source_weaker _ _ (λ line h. inl h) c.in-Err.refusal (c.in-Err.ensures.placed known)
