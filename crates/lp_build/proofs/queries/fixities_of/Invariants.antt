use Rattle.std.proofs.Common.{◌≡◌, map, take}
use Rattle.std.specs.Prelude.{filter}
use Rattle.lp_sig.specs.Rows.{fixity_row}
use Rattle.lp_build.specs.Queried.{is_seen}
use Rattle.lp_build.proofs.queries.fixities_of.Given as goal

abbrev pub invariant-loop-at : goal.invariant-loop-at
invariant-loop-at l = map fixity_row l.fixities.items ≡ map fixity_row (filter (λ e. is_seen l.own.constants.items e.name.items) (take l.at l.entries))
