use Rattle.std.proofs.Common.{arith, subst as transport}
use Rattle.std.proofs.lemmas.Bool.{leb-true}
use Rattle.lp_term.specs.Nodes.{tree}
use Rattle.lp_term.specs.Facts.{IsReach}
use Rattle.lp_term.proofs.Knowing.{loose_more}
use Rattle.lp_term.proofs.bank.Bank.is_known_below.Goals as goal

pub returns-in-Some : goal.returns-in-Some
returns-in-Some c = λ e.
    loose_more c.in-Some.reach c.args.depth 0 (omega (arith, leb-true c.in-Some.reach c.args.depth e)) (tree c.args.self.now c.args.id.0)
    (transport (λ o. IsReach o (tree c.args.self.now c.args.id.0)) c.in-Some.is c.facts.ensures.reach)
