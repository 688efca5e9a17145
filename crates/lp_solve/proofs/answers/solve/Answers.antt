use Rattle.std.proofs.Common.{inl, map, refl, subst, sym}
use Rattle.lp_build.specs.Told.{AreKnown}
use Rattle.lp_lines.proofs.Refusing.{never_write_fault}
use Rattle.lp_lines.proofs.Running.{keeps_behind, keeps_told, ran_searched, ran_told}
use Rattle.lp_lines.proofs.Statuses.{not_source}
use Rattle.lp_load.proofs.Telling.{none_known, placed_told}
use Rattle.lp_solve.specs.Reported.{watching}
use Rattle.lp_solve.specs.Shown.{constants_in, names_in}
use Rattle.lp_solve.proofs.Hearing.{refused_lack}
use Rattle.lp_solve.proofs.Refused.{line_begun, line_written, search_begun, search_heard, search_solved}
use Rattle.lp_solve.proofs.Telling.{search_written}
use Rattle.lp_solve.proofs.answers.solve.Goals as goal

pub returns-in-Ok-clause-writes : goal.returns-in-Ok-clause-writes
returns-in-Ok-clause-writes g c =
    let known = subst (λ xs. AreKnown (g.F.Folder.held c.args.folder.now) xs) (sym c.new-unknown.ensures.items) (none_known (g.F.Folder.held c.args.folder.now)) in
    search_solved (g.F.Folder.held c.args.folder.now) c.args.question.name.now c.args.question.query.now c.args.watched c.args.question.steps c.args.question.answers
    c.write_watched.result _ _ (g.K.Sink.written c.args.out.now) (g.K.Sink.written c.write_watched.new.out)
    c.in-Ok.prepared (c.in-Ok.ensures.ready known) c.write_watched.ensures.run

pub returns-in-Ok-clause-begins : goal.returns-in-Ok-clause-begins
returns-in-Ok-clause-begins g c =
    let known = subst (λ xs. AreKnown (g.F.Folder.held c.args.folder.now) xs) (sym c.new-unknown.ensures.items) (none_known (g.F.Folder.held c.args.folder.now)) in
    search_begun (g.F.Folder.held c.args.folder.now) c.args.question.name.now c.args.question.query.now c.args.watched c.args.question.steps c.args.question.answers c.write_watched.result
    _ _ (g.K.Sink.written c.args.out.now) (g.K.Sink.written c.write_watched.new.out)
    c.in-Ok.prepared (c.in-Ok.ensures.ready known) c.write_watched.ensures.run

pub returns-in-Ok-clause-ran : goal.returns-in-Ok-clause-ran
returns-in-Ok-clause-ran g c =
    ran_searched c.write_watched.result c.in-Ok.ensures.looked
    (search_written (constants_in c.in-Ok.prepared.shown) (names_in c.in-Ok.prepared.shown) _ c.in-Ok.prepared.search
    c.write_watched.result (g.K.Sink.written c.args.out.now) (g.K.Sink.written c.write_watched.new.out) c.write_watched.ensures.run.writes
    c.write_watched.ensures.run.begins)
    c.write_watched.ensures.of_search

pub returns-in-Ok-clause-keeps : goal.returns-in-Ok-clause-keeps
returns-in-Ok-clause-keeps g c = keeps_behind c.write_watched.result c.in-Ok.ensures.looked c.write_watched.ensures.write_faults

pub returns-in-Ok-clause-placed : goal.returns-in-Ok-clause-placed
returns-in-Ok-clause-placed g c = λ e. absurd (not_source c.write_watched.result c.write_watched.ensures.of_search e)

pub tell-requires : goal.tell-requires
tell-requires g c = never_write_fault c.in-Err.refusal c.in-Err.ensures.looked.kind

pub returns-in-Err-clause-writes : goal.returns-in-Err-clause-writes
returns-in-Err-clause-writes g c =
    let known = subst (λ xs. AreKnown (g.F.Folder.held c.args.folder.now) xs) (sym c.new-unknown.ensures.items) (none_known (g.F.Folder.held c.args.folder.now)) in
    line_written (g.F.Folder.held c.args.folder.now) c.args.question.name.now c.args.question.query.now (watching c.args.watched (map g.W.Watch.seen c.args.watchers.now.items)) c.args.question.steps c.args.question.answers c.tell.result
    (g.K.Sink.written c.args.out.now) (g.K.Sink.written c.tell.new.out)
    c.in-Err.refusal (c.in-Err.ensures.refusal known) c.tell.ensures.said

pub returns-in-Err-clause-begins : goal.returns-in-Err-clause-begins
returns-in-Err-clause-begins g c =
    let known = subst (λ xs. AreKnown (g.F.Folder.held c.args.folder.now) xs) (sym c.new-unknown.ensures.items) (none_known (g.F.Folder.held c.args.folder.now)) in
    line_begun (g.F.Folder.held c.args.folder.now) c.args.question.name.now c.args.question.query.now (watching c.args.watched (map g.W.Watch.seen c.args.watchers.now.items)) c.args.question.steps c.args.question.answers c.tell.result
    (g.K.Sink.written c.args.out.now) (g.K.Sink.written c.tell.new.out)
    c.in-Err.refusal (c.in-Err.ensures.refusal known) c.tell.ensures.prefix

pub returns-in-Err-clause-ran : goal.returns-in-Err-clause-ran
returns-in-Err-clause-ran g c = ran_told c.in-Err.refusal c.tell.result c.in-Err.ensures.looked c.tell.ensures.said c.tell.ensures.prefix

pub returns-in-Err-clause-keeps : goal.returns-in-Err-clause-keeps
returns-in-Err-clause-keeps g c = keeps_told c.in-Err.refusal c.tell.result c.in-Err.ensures.looked c.tell.ensures.faults

pub returns-in-Err-clause-placed : goal.returns-in-Err-clause-placed
returns-in-Err-clause-placed g c =
    let known = subst (λ xs. AreKnown (g.F.Folder.held c.args.folder.now) xs) (sym c.new-unknown.ensures.items) (none_known (g.F.Folder.held c.args.folder.now)) in
    placed_told (g.F.Folder.held c.args.folder.now) c.args.question.query.now c.in-Err.refusal c.tell.result _ _ (c.in-Err.ensures.placed known) c.tell.ensures.said

pub returns-in-Ok-clause-watched : goal.returns-in-Ok-clause-watched
returns-in-Ok-clause-watched g c =
    let known = subst (λ xs. AreKnown (g.F.Folder.held c.args.folder.now) xs) (sym c.new-unknown.ensures.items) (none_known (g.F.Folder.held c.args.folder.now)) in
    search_heard _ _ _ c.args.watched c.args.question.steps c.args.question.answers c.write_watched.result _ _ _ _ c.in-Ok.prepared (c.in-Ok.ensures.ready known) c.write_watched.ensures.run
    c.write_watched.ensures.of_search

pub returns-in-Err-clause-watched : goal.returns-in-Err-clause-watched
returns-in-Err-clause-watched g c = record {
  searched = λ e. absurd (refused_lack c.in-Err.refusal c.tell.result c.in-Err.ensures.looked.kind (λ n. (c.tell.ensures.said n).0) e);
  always = inl refl;
  refused = λ e n. refl;
}
