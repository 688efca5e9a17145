use Rattle.std.proofs.Common.{subst as transport, sym}
use Rattle.lp_term.specs.Spine.{LooseBelow}
use Rattle.lp_term.specs.Facts.{IsReach}
use Rattle.lp_term.proofs.Knowing.{loose_under}
use Rattle.lp_term.proofs.facts.lowered.Goals as goal

pub returns-in-Some : goal.returns-in-Some
returns-in-Some c = λ t h. transport (λ z. LooseBelow z 1 t) (sym c.saturating_sub.ensures) (loose_under c.in-Some.r 0 t (transport (λ o. IsReach o t) c.in-Some.is h))
