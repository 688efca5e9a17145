use Rattle.std.proofs.Common.{◌≡◌, ◌≢◌, ◌∙◌, map, sym, subst}
use Rattle.lp_base.specs.declared.status.Status.TheVariants as variant
use Rattle.lp_solve.specs.Reported.{watching}
use Rattle.lp_solve.specs.Solved.{BeginsSolved, WritesSolved}
use Rattle.lp_solve.proofs.solve.solve_within.Goals as goal

pub returns-then-watch-clause-writes : goal.returns-then-watch-clause-writes
returns-then-watch-clause-writes g c =
    subst (λ w. c.solve.result ≢ variant.WriteFault → WritesSolved (g.F.Folder.held c.args.folder.now) c.args.question.name.now
    c.args.question.query.now (watching w (map g.W.Watch.seen c.args.watchers.now.items)) c.args.question.steps c.args.question.answers c.solve.result (g.K.Sink.written c.args.out.now) (g.K.Sink.written c.solve.new.out))
    (sym c.if-watch.true) c.solve.ensures.writes

pub returns-then-watch-clause-begins : goal.returns-then-watch-clause-begins
returns-then-watch-clause-begins g c =
    subst (λ w. c.solve.result ≡ variant.WriteFault → BeginsSolved (g.F.Folder.held c.args.folder.now) c.args.question.name.now
    c.args.question.query.now (watching w (map g.W.Watch.seen c.args.watchers.now.items)) c.args.question.steps c.args.question.answers (g.K.Sink.written c.args.out.now) (g.K.Sink.written c.solve.new.out))
    (sym c.if-watch.true) c.solve.ensures.begins

pub returns-else-watch-clause-writes : goal.returns-else-watch-clause-writes
returns-else-watch-clause-writes g c =
    subst (λ w. c.solve_unwatched.result ≢ variant.WriteFault → WritesSolved (g.F.Folder.held c.args.folder.now) c.args.question.name.now
    c.args.question.query.now (watching w (map g.W.Watch.seen c.args.watchers.now.items)) c.args.question.steps c.args.question.answers c.solve_unwatched.result (g.K.Sink.written c.args.out.now) (g.K.Sink.written c.solve_unwatched.new.out))
    (sym c.if-watch.false) c.solve_unwatched.ensures.writes

pub returns-else-watch-clause-begins : goal.returns-else-watch-clause-begins
returns-else-watch-clause-begins g c =
    subst (λ w. c.solve_unwatched.result ≡ variant.WriteFault → BeginsSolved (g.F.Folder.held c.args.folder.now) c.args.question.name.now
    c.args.question.query.now (watching w (map g.W.Watch.seen c.args.watchers.now.items)) c.args.question.steps c.args.question.answers (g.K.Sink.written c.args.out.now) (g.K.Sink.written c.solve_unwatched.new.out))
    (sym c.if-watch.false) c.solve_unwatched.ensures.begins

pub returns-then-watch-clause-watched : goal.returns-then-watch-clause-watched
returns-then-watch-clause-watched g c = λ w. c.solve.ensures.watched

pub returns-else-watch-clause-watched : goal.returns-else-watch-clause-watched
returns-else-watch-clause-watched g c = λ w. absurd (let q = sym c.if-watch.false ∙ w in cc)
