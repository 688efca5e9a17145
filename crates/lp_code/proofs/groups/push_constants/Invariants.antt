use Rattle.std.proofs.Common.{◌≡◌, ◌++◌, map}
use Rattle.lp_code.specs.Groups.{looked_key, constant}
use Rattle.lp_code.proofs.groups.push_constants.Given as goal

abbrev pub invariant-loop-key : goal.invariant-loop-key
invariant-loop-key l = map looked_key l.keys.items ≡ map looked_key l.fn.keys.items ++ map constant (map (λ k. k.now) l.yielded)
