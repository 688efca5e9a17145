use Rattle.std.proofs.Common.{subst}
use Rattle.lp_judge.specs.Proofs.{IsCertified, IsCounted, WritesCounted, WritesProofs}
use Rattle.lp_judge.proofs.Provings.{done_has_file, told_no_file}
use Rattle.lp_model.specs.declared.ending.Ending.TheVariants as ending
use Rattle.lp_lines.proofs.Leaving.{leaves_then, leaves_told}
use Rattle.lp_lines.proofs.Refusing.{never_write_fault}
use Rattle.lp_lines.proofs.Running.{ran_behind, ran_told}
use Rattle.lp_lines.proofs.Statuses.{not_source}
use Rattle.lp_load.proofs.Telling.{placed_told}
use Rattle.lp_judge.proofs.proving.prove.Goals as goal

pub returns-in-Ok-clause-ran : goal.returns-in-Ok-clause-ran
returns-in-Ok-clause-ran g c = ran_behind c.finish.result c.in-Ok.ensures.looked c.finish.ensures.read_faults c.finish.ensures.misses
    c.finish.ensures.overs c.finish.ensures.grows c.finish.ensures.of_search

pub returns-in-Ok-clause-leaves : goal.returns-in-Ok-clause-leaves
returns-in-Ok-clause-leaves g c =
    let x = c.finish.ensures.leaves _ c.in-Ok.ensures.outcome in
    (x.0, x.1, x.2, leaves_then c.in-Ok.ensures.looked x.3)

pub returns-in-Ok-clause-placed : goal.returns-in-Ok-clause-placed
returns-in-Ok-clause-placed g c = λ e. absurd (not_source c.finish.result c.finish.ensures.of_search e)

pub tell-requires : goal.tell-requires
tell-requires g c = never_write_fault c.in-Err.refusal c.in-Err.ensures.looked.kind

pub returns-in-Err-clause-ran : goal.returns-in-Err-clause-ran
returns-in-Err-clause-ran g c = ran_told c.in-Err.refusal c.tell.result c.in-Err.ensures.looked c.tell.ensures.said c.tell.ensures.prefix

pub returns-in-Err-clause-leaves : goal.returns-in-Err-clause-leaves
returns-in-Err-clause-leaves g c = (0, 0, ending.NoMore, leaves_told c.in-Err.refusal c.tell.result c.in-Err.ensures.looked c.tell.ensures.said c.tell.ensures.faults)

pub returns-in-Err-clause-placed : goal.returns-in-Err-clause-placed
returns-in-Err-clause-placed g c = placed_told (g.F.Folder.held c.args.folder.now) c.args.claim.query.now c.in-Err.refusal c.tell.result _ _ c.in-Err.ensures.placed c.tell.ensures.said

pub returns-in-Ok-clause-certified : goal.returns-in-Ok-clause-certified
returns-in-Ok-clause-certified g c = λ f.
    let name = c.args.claim.name.now in
    let text = c.args.claim.query.now in
    subst (λ held. IsCertified held name text c.in-Ok.outcome → WritesProofs held (g.F.Folder.held c.finish.new.folder) name text) c.in-Ok.ensures.looked.same
    (λ h. c.finish.ensures.certified name text c.in-Ok.ensures.outcome h f) c.in-Ok.ensures.certified

pub returns-in-Err-clause-certified : goal.returns-in-Err-clause-certified
returns-in-Err-clause-certified g c = λ f. absurd (told_no_file c.in-Err.refusal c.tell.result c.in-Err.ensures.looked.kind c.tell.ensures.said f)

pub returns-in-Ok-clause-counted : goal.returns-in-Ok-clause-counted
returns-in-Ok-clause-counted g c = λ e.
    let name = c.args.claim.name.now in
    let text = c.args.claim.query.now in
    subst (λ held. IsCounted held name text c.in-Ok.outcome → WritesCounted held (g.F.Folder.held c.finish.new.folder) name text (g.K.Sink.written c.args.out.now) (g.K.Sink.written c.finish.new.out)) c.in-Ok.ensures.looked.same
    (λ h. c.finish.ensures.counted name text h e) c.in-Ok.ensures.counted

pub returns-in-Err-clause-counted : goal.returns-in-Err-clause-counted
returns-in-Err-clause-counted g c = λ e. absurd (told_no_file c.in-Err.refusal c.tell.result c.in-Err.ensures.looked.kind c.tell.ensures.said (done_has_file e))
