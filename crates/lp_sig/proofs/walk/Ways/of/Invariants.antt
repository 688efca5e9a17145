use Rattle.std.proofs.Common.{◌≡◌, map, take}
use Rattle.std.specs.Prelude.{string_bytes}
use Rattle.lp_sig.specs.Loading.{ways_between}
use Rattle.lp_sig.proofs.walk.Ways.of.Given as goal

abbrev pub invariant-loop-at : goal.invariant-loop-at
invariant-loop-at l = map (λ out. out.items) l.ways.items ≡ ways_between (map string_bytes l.names) l.sources (take l.at l.texts)
