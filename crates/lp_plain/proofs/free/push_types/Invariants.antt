use Rattle.std.proofs.Common.{◌≡◌, ◌++◌, map}
use Rattle.lp_plain.specs.declared.free.Part.{Part}
use Rattle.lp_plain.proofs.free.push_types.Given as goal

abbrev pub invariant-loop-of : goal.invariant-loop-of
invariant-loop-of l = l.left.items ≡ l.fn.left.items ++ map (λ t. Part.Type t) l.yielded
