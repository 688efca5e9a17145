use Rattle.lp_lines.proofs.Refusing.{never_write_fault}
use Rattle.lp_lines.proofs.Running.{keeps_behind, keeps_told, ran_searched, ran_told}
use Rattle.lp_ask.proofs.Standing.{keeps_from, ran_from}
use Rattle.lp_ask.proofs.asking.answer_or_tell.Goals as goal

pub returns-in-Ok-clause-ran : goal.returns-in-Ok-clause-ran
returns-in-Ok-clause-ran g c = ran_searched c.in-Ok.status c.in-Ok.ensures.looked c.answer_on.ensures.grows c.in-Ok.ensures.ended

pub returns-in-Ok-clause-keeps : goal.returns-in-Ok-clause-keeps
returns-in-Ok-clause-keeps g c = keeps_behind c.in-Ok.status c.in-Ok.ensures.looked c.in-Ok.ensures.write_faults

pub tell-requires : goal.tell-requires
tell-requires g c = never_write_fault c.in-Err.refusal c.in-Err.ensures.looked.kind

pub returns-in-Err-clause-ran : goal.returns-in-Err-clause-ran
returns-in-Err-clause-ran g c = ran_from c.tell.result c.in-Err.ensures.unwritten (ran_told c.in-Err.refusal c.tell.result c.in-Err.ensures.looked c.tell.ensures.said c.tell.ensures.prefix)

pub returns-in-Err-clause-keeps : goal.returns-in-Err-clause-keeps
returns-in-Err-clause-keeps g c = keeps_from c.tell.result c.in-Err.ensures.unwritten (keeps_told c.in-Err.refusal c.tell.result c.in-Err.ensures.looked c.tell.ensures.faults)
