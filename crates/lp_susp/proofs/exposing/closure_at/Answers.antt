use Rattle.std.proofs.Common.{sym}
use Rattle.lp_susp.proofs.Closures.{suspended_closure}
use Rattle.lp_susp.proofs.exposing.closure_at.Goals as goal

pub returns : goal.returns
returns c =
    suspended_closure c.args.store.now c.args.cell.0 c.in_ok-at.at.0 c.in-Susp.term c.in_ok-inside.inside.0 _ c.cell.ensures.sound c.in_ok-at.ensures.refers c.in_ok-at.ensures.within (sym c.in-Susp.ensures.cell)
    c.in_ok-inside.ensures.refers c.in_ok-inside.ensures.within (sym c.in-Abs.ensures.cell)
