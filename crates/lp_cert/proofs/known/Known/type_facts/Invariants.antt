use Rattle.std.proofs.Common.{◌≡◌, map, take}
use Rattle.lp_cert.specs.Facts.{all_marked}
use Rattle.lp_cert.proofs.known.Known.type_facts.Given as goal

abbrev pub invariant-loop-of : goal.invariant-loop-of
invariant-loop-of l = l.closed ≡ all_marked l.self.types.items (map (λ t. t.0) (take l.of-index l.types))
