use Rattle.std.proofs.Common.{ap, map, subst, inr, refl}
use Rattle.lp_judge.specs.Proofs.{WritesProofs}
use Rattle.lp_judge.specs.Proved.{Proves}
use Rattle.lp_load.specs.Placed.{WritesPlaced}
use Rattle.lp_words.specs.Asked.{asked_of}
use Rattle.lp_cli.proofs.Doing.{becomes, does_check, does_files, does_lambda, does_prove, does_query, does_session, does_solve, does_trial, solves, watching_or}
use Rattle.lp_cli.proofs.Watching.{hears_as, solve_heard}
use Rattle.lp_cli.proofs.run.perform.Goals as goal

pub returns-in-Trial-clause-does : goal.returns-in-Trial-clause-does
returns-in-Trial-clause-does g c = becomes _ (asked_of c.args.asked) c.trial.result (ap asked_of c.in-Trial.is) (does_trial c.in-Trial.size c.trial.result c.trial.ensures.ran c.trial.ensures.keeps)

pub returns-in-Query-clause-does : goal.returns-in-Query-clause-does
returns-in-Query-clause-does g c = becomes _ (asked_of c.args.asked) c.query.result (ap asked_of c.in-Query.is)
    (does_query c.in-Query.name.now c.in-Query.text.now c.in-Query.options c.query.result c.query.ensures.ran c.query.ensures.keeps)

pub returns-in-Session-clause-does : goal.returns-in-Session-clause-does
returns-in-Session-clause-does g c = becomes _ (asked_of c.args.asked) c.session.result (ap asked_of c.in-Session.is)
    (does_session c.in-Session.name.now c.in-Session.options c.session.result c.session.ensures.ran c.session.ensures.keeps)

pub returns-in-Lambda-clause-does : goal.returns-in-Lambda-clause-does
returns-in-Lambda-clause-does g c = becomes _ (asked_of c.args.asked) c.lambda.result (ap asked_of c.in-Lambda.is)
    (does_lambda c.in-Lambda.name.now c.in-Lambda.text.now c.lambda.result c.lambda.ensures.ran c.lambda.ensures.keeps c.lambda.ensures.placed
    c.lambda.ensures.judges)

pub returns-in-Check-clause-does : goal.returns-in-Check-clause-does
returns-in-Check-clause-does g c =
    becomes _ (asked_of c.args.asked) c.check_certificates.result (ap asked_of c.in-Check.is)
    (does_check c.in-Check.name.now c.in-Check.text.now c.check_certificates.result c.check_certificates.ensures.ran
    c.check_certificates.ensures.keeps c.check_certificates.ensures.placed c.check_certificates.ensures.checks)

pub returns-in-Prove-clause-does : goal.returns-in-Prove-clause-does
returns-in-Prove-clause-does g c =
    becomes _ (asked_of c.args.asked) c.prove.result (ap asked_of c.in-Prove.is)
    (does_prove c.in-Prove.name.now c.in-Prove.text.now c.in-Prove.options c.prove.result c.prove.ensures.ran
    (subst (λ n. Proves g.F.Folder.write_faults g.F.Folder.held g.K.Sink.faults g.K.Sink.written c.args.folder.now c.prove.new.folder c.args.out.now
    c.prove.new.out n c.prove.result) c.claim.ensures.name c.prove.ensures.leaves)
    (λ e. subst (λ q. WritesPlaced (g.F.Folder.held c.args.folder.now) q (g.K.Sink.written c.args.out.now) (g.K.Sink.written c.prove.new.out)) c.claim.ensures.query (c.prove.ensures.placed e))
    (λ f. let told = g.F.Folder.held c.args.folder.now in let now = g.F.Folder.held c.prove.new.folder in
    subst (λ n. WritesProofs told now n c.in-Prove.text.now) c.claim.ensures.name
    (subst (λ q. WritesProofs told now c.claim.result.name.now q) c.claim.ensures.query (c.prove.ensures.certified f))))

pub returns-in-Files-clause-does : goal.returns-in-Files-clause-does
returns-in-Files-clause-does g c =
    becomes _ (asked_of c.args.asked) c.write_file.result (ap asked_of c.in-Files.is)
    (does_files c.in-Files.command c.in-Files.name.now c.write_file.result c.write_file.ensures.ran c.write_file.ensures.leaves
    c.write_file.ensures.makes)

pub returns-in-Solve-clause-does : goal.returns-in-Solve-clause-does
returns-in-Solve-clause-does g c =
    becomes _ (asked_of c.args.asked) c.solve_within.result (ap asked_of c.in-Solve.is)
    (does_solve c.in-Solve.name.now c.in-Solve.query.now c.in-Solve.options c.solve_within.result c.solve_within.ensures.ran c.solve_within.ensures.keeps
    (λ e. subst (λ q. WritesPlaced (g.F.Folder.held c.args.folder.now) q (g.K.Sink.written c.args.out.now) (g.K.Sink.written c.solve_within.new.out))
    c.question.ensures.query (c.solve_within.ensures.placed e))
    (solves (g.F.Folder.held c.args.folder.now) (g.K.Sink.written c.args.out.now) (g.K.Sink.written c.solve_within.new.out) c.solve_within.result c.in-Solve.options (map g.W.Watch.seen c.args.watchers.now.items)
    c.question.ensures.name c.question.ensures.query c.question.ensures.steps c.question.ensures.answers c.solve_within.ensures.writes c.solve_within.ensures.begins))

pub returns-in-Query-clause-silent : goal.returns-in-Query-clause-silent
returns-in-Query-clause-silent g c = watching_or _ (asked_of c.args.asked) _ _ (ap asked_of c.in-Query.is) c.query.ensures.silent

pub returns-in-Solve-clause-silent : goal.returns-in-Solve-clause-silent
returns-in-Solve-clause-silent g c = watching_or _ (asked_of c.args.asked) _ _ (ap asked_of c.in-Solve.is) c.solve_within.ensures.silent

pub returns-in-Trial-clause-silent : goal.returns-in-Trial-clause-silent
returns-in-Trial-clause-silent g c = inr refl

pub returns-in-Session-clause-silent : goal.returns-in-Session-clause-silent
returns-in-Session-clause-silent g c = inr refl

pub returns-in-Lambda-clause-silent : goal.returns-in-Lambda-clause-silent
returns-in-Lambda-clause-silent g c = inr refl

pub returns-in-Check-clause-silent : goal.returns-in-Check-clause-silent
returns-in-Check-clause-silent g c = inr refl

pub returns-in-Prove-clause-silent : goal.returns-in-Prove-clause-silent
returns-in-Prove-clause-silent g c = inr refl

pub returns-in-Files-clause-silent : goal.returns-in-Files-clause-silent
returns-in-Files-clause-silent g c = inr refl

pub returns-in-Trial-clause-hears : goal.returns-in-Trial-clause-hears
returns-in-Trial-clause-hears g c = hears_as _ c.trial.result _ _ _ (asked_of c.args.asked) (ap asked_of c.in-Trial.is) tt

pub returns-in-Query-clause-hears : goal.returns-in-Query-clause-hears
returns-in-Query-clause-hears g c = hears_as _ c.query.result _ _ _ (asked_of c.args.asked) (ap asked_of c.in-Query.is) tt

pub returns-in-Session-clause-hears : goal.returns-in-Session-clause-hears
returns-in-Session-clause-hears g c = hears_as _ c.session.result _ _ _ (asked_of c.args.asked) (ap asked_of c.in-Session.is) tt

pub returns-in-Lambda-clause-hears : goal.returns-in-Lambda-clause-hears
returns-in-Lambda-clause-hears g c = hears_as _ c.lambda.result _ _ _ (asked_of c.args.asked) (ap asked_of c.in-Lambda.is) tt

pub returns-in-Check-clause-hears : goal.returns-in-Check-clause-hears
returns-in-Check-clause-hears g c = hears_as _ c.check_certificates.result _ _ _ (asked_of c.args.asked) (ap asked_of c.in-Check.is) tt

pub returns-in-Prove-clause-hears : goal.returns-in-Prove-clause-hears
returns-in-Prove-clause-hears g c = hears_as _ c.prove.result _ _ _ (asked_of c.args.asked) (ap asked_of c.in-Prove.is) tt

pub returns-in-Files-clause-hears : goal.returns-in-Files-clause-hears
returns-in-Files-clause-hears g c = hears_as _ c.write_file.result _ _ _ (asked_of c.args.asked) (ap asked_of c.in-Files.is) tt

pub returns-in-Solve-clause-hears : goal.returns-in-Solve-clause-hears
returns-in-Solve-clause-hears g c =
    let old = map g.W.Watch.seen c.args.watchers.now.items in
    let new = map g.W.Watch.seen c.solve_within.new.watchers.items in
    let told = g.F.Folder.held c.args.folder.now in
    hears_as told c.solve_within.result old new _ (asked_of c.args.asked) (ap asked_of c.in-Solve.is)
    (solve_heard told c.solve_within.result old new c.in-Solve.options c.question.ensures.name c.question.ensures.query c.question.ensures.steps c.question.ensures.answers
    c.solve_within.ensures.watched)
