use Rattle.lp_lines.proofs.Refusing.{never_write_fault}
use Rattle.lp_lines.proofs.Running.{keeps_then, keeps_told, ran_then, ran_told}
use Rattle.lp_load.proofs.Telling.{placed_told}
use Rattle.std.proofs.Common.{subst}
use Rattle.lp_judge.specs.Asked.{IsAskedFrom}
use Rattle.lp_judge.specs.Checked.{Checks}
use Rattle.lp_judge.proofs.Checkings.{checks_refused}
use Rattle.lp_judge.proofs.checking.check_certificates.Goals as goal

pub returns-in-Ok-clause-ran : goal.returns-in-Ok-clause-ran
returns-in-Ok-clause-ran g c = ran_then c.check_asked.result c.in-Ok.ensures.looked c.check_asked.ensures.ran

pub returns-in-Ok-clause-keeps : goal.returns-in-Ok-clause-keeps
returns-in-Ok-clause-keeps g c = keeps_then c.check_asked.result c.in-Ok.ensures.looked c.check_asked.ensures.keeps

pub returns-in-Ok-clause-placed : goal.returns-in-Ok-clause-placed
returns-in-Ok-clause-placed g c = λ e. absurd (c.check_asked.ensures.nowhere e)

pub tell-requires : goal.tell-requires
tell-requires g c = never_write_fault c.in-Err.refusal c.in-Err.ensures.looked.kind

pub returns-in-Err-clause-ran : goal.returns-in-Err-clause-ran
returns-in-Err-clause-ran g c = ran_told c.in-Err.refusal c.tell.result c.in-Err.ensures.looked c.tell.ensures.said c.tell.ensures.prefix

pub returns-in-Err-clause-keeps : goal.returns-in-Err-clause-keeps
returns-in-Err-clause-keeps g c = keeps_told c.in-Err.refusal c.tell.result c.in-Err.ensures.looked c.tell.ensures.faults

pub returns-in-Err-clause-placed : goal.returns-in-Err-clause-placed
returns-in-Err-clause-placed g c = placed_told (g.F.Folder.held c.args.folder.now) c.args.query.now c.in-Err.refusal c.tell.result _ _ c.in-Err.ensures.placed c.tell.ensures.said

pub returns-in-Ok-clause-checks : goal.returns-in-Ok-clause-checks
returns-in-Ok-clause-checks g c =
    subst (λ held. IsAskedFrom held c.args.name.now c.args.query.now c.in-Ok.asked.names c.in-Ok.asked.query
    → Checks held c.args.name.now c.args.query.now (g.K.Sink.written c.args.out.now) (g.K.Sink.written c.check_asked.new.out) c.check_asked.result)
    c.in-Ok.ensures.looked.same (c.check_asked.ensures.checks c.args.query.now) c.in-Ok.ensures.asked

pub returns-in-Err-clause-checks : goal.returns-in-Err-clause-checks
returns-in-Err-clause-checks g c =
    checks_refused (g.F.Folder.held c.args.folder.now) c.args.name.now c.args.query.now _ _ c.tell.result c.in-Err.refusal c.in-Err.ensures.looked.kind c.tell.ensures.said
