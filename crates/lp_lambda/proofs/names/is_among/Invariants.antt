use Rattle.std.proofs.Common.{◌≡◌, drop, map}
use Rattle.lp_term.specs.Nodes.{tree}
use Rattle.lp_lambda.specs.Pattern.{is_among}
use Rattle.lp_lambda.proofs.names.is_among.Given as goal

abbrev pub invariant-loop-place : goal.invariant-loop-place
invariant-loop-place l = is_among l.index (map (λ t. tree l.bank t.0) l.terms) ≡ is_among l.index (map (λ t. tree l.bank t.0) (drop l.place l.terms))
