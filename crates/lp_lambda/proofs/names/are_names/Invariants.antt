use Rattle.std.proofs.Common.{◌≡◌, drop, map, reverse}
use Rattle.lp_term.specs.Nodes.{tree}
use Rattle.lp_lambda.specs.Pattern.{are_names}
use Rattle.lp_lambda.proofs.names.are_names.Given as goal

abbrev pub invariant-loop-place : goal.invariant-loop-place
invariant-loop-place l = are_names (reverse l.walk.scope.items) l.variable (map (λ t. tree l.bank t.0) l.arguments) ≡ are_names (reverse l.walk.scope.items) l.variable (map (λ t. tree l.bank t.0) (drop l.place l.arguments))
