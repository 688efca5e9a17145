use Rattle.std.proofs.Common.{arith}
use Rattle.lp_store.specs.Contents.{env_list}
use Rattle.lp_susp.proofs.Contracting.{instantiated_reads, instantiated_stands, instantiated_avoids}
use Rattle.lp_susp.proofs.reducing.instantiate.Goals as goal

pub push-requires : goal.push-requires
push-requires c =
    let k = instantiated_stands c.args.store.now c.args.closure.pending c.args.arg (env_list c.env.new.self.envs c.in_ok-env.env.0) c.requires.pending c.in_ok-env.ensures.list in
    (omega (arith, c.requires.body, c.in_ok-env.ensures.kept.more_cells), c.in_ok-env.ensures.within, k.0, k.1)

pub returns-clause-reads : goal.returns-clause-reads
returns-clause-reads c =
    instantiated_reads c.args.store.now c.env.new.self c.push.new.self c.args.closure c.in_ok-id.id.0 c.args.arg (env_list c.env.new.self.envs c.in_ok-env.env.0) c.in_ok-env.ensures.kept c.in_ok-env.ensures.list c.in_ok-id.ensures.reads

pub returns-clause-avoids : goal.returns-clause-avoids
returns-clause-avoids c = λ y h a b.
    let e = c.in_ok-env.ensures.kept in
    c.in_ok-id.ensures.avoids y (omega (arith, h, e.more_cells))
    (instantiated_avoids c.args.store.now c.env.new.self c.args.closure c.args.arg (env_list c.env.new.self.envs c.in_ok-env.env.0) y c.mark-mark.ensures.sound e c.requires.body c.requires.pending c.requires.arg c.in_ok-env.ensures.list a b)
