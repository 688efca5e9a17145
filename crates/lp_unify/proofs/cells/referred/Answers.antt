use Rattle.std.proofs.Common.{sym}
use Rattle.lp_susp.specs.Route.{arrived, onward}
use Rattle.lp_susp.proofs.Routes.{refs_on}
use Rattle.lp_unify.proofs.Ways.{ref_avoids}
use Rattle.lp_unify.proofs.References.{chain_falls}
use Rattle.lp_unify.proofs.TypeCells
use Rattle.lp_unify.proofs.TypeVisits
use Rattle.lp_unify.proofs.TypeRuns
use Rattle.lp_unify.proofs.cells.referred.Goals as goal

pub references-init : goal.references-init
references-init c = record { leads = λ x u n. n; refers = arrived c.args.cell.0 }

pub references-preserved : goal.references-preserved
references-preserved c = record {
  leads = λ x u n. c.references.invariant.leads x u (ref_avoids c.args.store.now x c.references.at.0 c.in-Ref.to (sym c.in-Ref.ensures.cell) u n);
  refers = refs_on c.references.invariant.refers (onward c.in-Ref.to (c.in-Ref.ensures.inside (λ e. cc)) (sym c.in-Ref.ensures.cell) (arrived c.in-Ref.to.0));
}

pub references-smaller : goal.references-smaller
references-smaller c = chain_falls c.args.store.now (c.in-Ref.ensures.sound (λ e. cc)) c.references.at.0 c.in-Ref.to (c.in-Ref.ensures.inside (λ e. cc)) (sym c.in-Ref.ensures.cell)
