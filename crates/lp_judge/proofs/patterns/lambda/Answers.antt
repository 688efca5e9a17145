use Rattle.lp_lines.proofs.Refusing.{never_write_fault}
use Rattle.lp_lines.proofs.Running.{keeps_behind, keeps_told, ran_searched, ran_told}
use Rattle.lp_lines.proofs.Statuses.{not_source}
use Rattle.lp_load.proofs.Telling.{placed_told}
use Rattle.lp_judge.proofs.Telling.{judges_refused}
use Rattle.lp_judge.proofs.patterns.lambda.Goals as goal

pub returns-in-Ok-clause-ran : goal.returns-in-Ok-clause-ran
returns-in-Ok-clause-ran g c = ran_searched c.judge.result c.in-Ok.ensures.looked c.judge.ensures.grows c.judge.ensures.of_search

pub returns-in-Ok-clause-keeps : goal.returns-in-Ok-clause-keeps
returns-in-Ok-clause-keeps g c = keeps_behind c.judge.result c.in-Ok.ensures.looked c.judge.ensures.write_faults

pub returns-in-Ok-clause-placed : goal.returns-in-Ok-clause-placed
returns-in-Ok-clause-placed g c = λ e. absurd (not_source c.judge.result c.judge.ensures.of_search e)

pub tell-requires : goal.tell-requires
tell-requires g c = never_write_fault c.in-Err.refusal c.in-Err.ensures.looked.kind

pub returns-in-Err-clause-ran : goal.returns-in-Err-clause-ran
returns-in-Err-clause-ran g c = ran_told c.in-Err.refusal c.tell.result c.in-Err.ensures.looked c.tell.ensures.said c.tell.ensures.prefix

pub returns-in-Err-clause-keeps : goal.returns-in-Err-clause-keeps
returns-in-Err-clause-keeps g c = keeps_told c.in-Err.refusal c.tell.result c.in-Err.ensures.looked c.tell.ensures.faults

pub returns-in-Err-clause-placed : goal.returns-in-Err-clause-placed
returns-in-Err-clause-placed g c = placed_told (g.F.Folder.held c.args.folder.now) c.args.query.now c.in-Err.refusal c.tell.result _ _ c.in-Err.ensures.placed c.tell.ensures.said

pub returns-in-Err-clause-judges : goal.returns-in-Err-clause-judges
returns-in-Err-clause-judges g c = judges_refused (g.F.Folder.held c.args.folder.now) c.args.name.now c.args.query.now _ _ c.tell.result
    c.in-Err.refusal c.in-Err.ensures.looked.kind c.tell.ensures.said

pub returns-in-Ok-clause-judges : goal.returns-in-Ok-clause-judges
returns-in-Ok-clause-judges g c = c.judge.ensures.judges (g.F.Folder.held c.args.folder.now) c.args.name.now c.args.query.now c.in-Ok.ensures.texts
