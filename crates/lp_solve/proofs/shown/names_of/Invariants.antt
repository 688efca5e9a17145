use Rattle.std.proofs.Common.{◌≡◌, map, take}
use Rattle.lp_sig.specs.Pieces.{spelled}
use Rattle.lp_solve.proofs.shown.names_of.Given as goal

abbrev pub invariant-names : goal.invariant-names
invariant-names l = map (λ n. n.items) l.names.items ≡ map (spelled l.text) (map (λ v. v.0) (take l.at l.vars))
