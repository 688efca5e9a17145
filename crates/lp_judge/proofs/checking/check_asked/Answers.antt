use Rattle.lp_lines.proofs.Refusing.{never_write_fault}
use Rattle.lp_lines.proofs.Running.{keeps_behind, keeps_told, ran_searched, ran_told}
use Rattle.lp_lines.proofs.Statuses.{not_source}
use Rattle.lp_judge.proofs.Checkings.{checks_refused, checks_told, told_nowhere}
use Rattle.lp_judge.proofs.checking.check_asked.Goals as goal

pub returns-in-Ok-clause-ran : goal.returns-in-Ok-clause-ran
returns-in-Ok-clause-ran g c = ran_searched c.say_checked.result c.in-Ok.ensures.looked c.say_checked.ensures.grows c.say_checked.ensures.of_search

pub returns-in-Ok-clause-keeps : goal.returns-in-Ok-clause-keeps
returns-in-Ok-clause-keeps g c = keeps_behind c.say_checked.result c.in-Ok.ensures.looked c.say_checked.ensures.write_faults

pub returns-in-Ok-clause-nowhere : goal.returns-in-Ok-clause-nowhere
returns-in-Ok-clause-nowhere g c = λ e. not_source c.say_checked.result c.say_checked.ensures.of_search e

pub tell-requires : goal.tell-requires
tell-requires g c = never_write_fault c.in-Err.refusal c.in-Err.ensures.looked.kind

pub returns-in-Err-clause-ran : goal.returns-in-Err-clause-ran
returns-in-Err-clause-ran g c = ran_told c.in-Err.refusal c.tell.result c.in-Err.ensures.looked c.tell.ensures.said c.tell.ensures.prefix

pub returns-in-Err-clause-keeps : goal.returns-in-Err-clause-keeps
returns-in-Err-clause-keeps g c = keeps_told c.in-Err.refusal c.tell.result c.in-Err.ensures.looked c.tell.ensures.faults

pub returns-in-Err-clause-nowhere : goal.returns-in-Err-clause-nowhere
returns-in-Err-clause-nowhere g c = told_nowhere c.in-Err.refusal c.tell.result c.in-Err.ensures.nowhere c.tell.ensures.said

pub returns-in-Ok-clause-checks : goal.returns-in-Ok-clause-checks
returns-in-Ok-clause-checks g c text = λ asked. checks_told _ _ text _ _ c.say_checked.result c.in-Ok.told.line.items c.in-Ok.told.status (c.in-Ok.ensures.right text asked) c.say_checked.ensures.said

pub returns-in-Err-clause-checks : goal.returns-in-Err-clause-checks
returns-in-Err-clause-checks g c text = λ asked. checks_refused _ _ text _ _ c.tell.result c.in-Err.refusal c.in-Err.ensures.looked.kind c.tell.ensures.said
