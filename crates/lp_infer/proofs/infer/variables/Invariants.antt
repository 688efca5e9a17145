use Rattle.std.proofs.Common.{◌≡◌, ◌<◌, ◌≤◌, length, map, take}
use Rattle.std.specs.Prelude.{All}
use Rattle.lp_infer.proofs.infer.variables.Given as goal

abbrev pub invariant-loop-at : goal.invariant-loop-at
invariant-loop-at l = record {
  known : All (λ v. v.1.0 < length l.bank.types) l.variables.items;
  spots : map (λ v. v.0) l.variables.items ≡ take l.at l.places;
  types : map (λ v. v.1) l.variables.items ≡ take l.at l.types;
  low : l.at ≤ length l.places;
}
