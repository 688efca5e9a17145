use Rattle.std.proofs.Common.{refl, arith}
use Rattle.lp_module.specs.Searching.{ways_in}
use Rattle.lp_module.proofs.Reaching.{count_is}
use Rattle.lp_module.proofs.Visiting.{begins_at}
use Rattle.lp_module.proofs.visits.Walk.new.Goals as goal

pub returns-clause-walk : goal.returns-clause-walk
returns-clause-walk c =
    let n = count_is c.args.ways.now.items in
    begins_at (ways_in c.args.ways.now.items) c.args.root c.len.result c.in_ok-seen.seen.items _ _ _ (omega (arith, n, c.requires)) (omega (arith, n, c.len.ensures, c.args.ways.now.ok)) c.in_ok-seen.ensures refl c.new.ensures.items c.new-2.ensures.items
