use Rattle.std.proofs.Common.{rules, map}
use Rattle.lp_solve.specs.Shown.{constants_in, names_in}
use Rattle.lp_solve.proofs.Reporting.{run_of}
use Rattle.lp_solve.proofs.answers.write_watched.Goals as goal

pub returns-clause-run : goal.returns-clause-run
returns-clause-run g c =
    let seen = g.W.Watch.seen in
    run_of (constants_in c.args.prepared.shown) (names_in c.args.prepared.shown) c.args.watched c.args.prepared.search c.write_answers.result _ _
    c.new-crowd.result.texts.items c.write_answers.new.crowd.texts.items (map seen c.args.watchers.now.items) (map seen c.new-crowd.result.watchers.now.items)
    (map seen c.write_answers.new.crowd.watchers.now.items) _ (search rules) (search rules) (search rules) c.write_answers.ensures.writes c.write_answers.ensures.begins
    c.write_answers.ensures.part c.write_answers.ensures.watched
