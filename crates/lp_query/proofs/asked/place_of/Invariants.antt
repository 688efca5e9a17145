use Rattle.std.proofs.Common.{◌≢◌, map, take}
use Rattle.std.specs.Prelude.{All}
use Rattle.lp_query.proofs.asked.place_of.Given as goal

abbrev pub invariant-names : goal.invariant-names
invariant-names l = All (λ n. n ≢ l.name) (map (λ n. n.items) (take l.place l.names))
