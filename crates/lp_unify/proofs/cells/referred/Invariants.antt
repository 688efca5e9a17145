use Rattle.std.proofs.Common.{ℕ}
use Rattle.lp_susp.specs.Route.{RefsTo}
use Rattle.lp_unify.specs.Inside.{LeadsOn}
use Rattle.lp_unify.proofs.References.{chain_length}
use Rattle.lp_unify.proofs.cells.referred.Given as goal

abbrev pub invariant-references : goal.invariant-references
invariant-references l = record {
  leads : LeadsOn l.store l.fn.cell.0 l.at.0;
  refers : RefsTo l.store l.fn.cell.0 l.at.0;
}

abbrev pub decreases-references : goal.decreases-references
decreases-references l = chain_length l.store l.at.0
