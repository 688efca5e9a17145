use Rattle.std.proofs.Common.{sym}
use Rattle.lp_susp.specs.Route.{arrived, onward}
use Rattle.lp_susp.proofs.Routes.{refs_on}
use Rattle.lp_goal.proofs.spine.referred.Goals as goal

pub references-init : goal.references-init
references-init c = record { within = c.requires; refers = arrived c.args.cell.0 }

pub references-preserved : goal.references-preserved
references-preserved c = record {
  within = c.in-Ref.ensures.stands;
  refers = refs_on c.references.invariant.refers (onward c.in-Ref.to c.references.invariant.within (sym c.in-Ref.ensures.cell) (arrived c.in-Ref.to.0));
}
