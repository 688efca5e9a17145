use Rattle.std.proofs.Common.{◌≡◌, ◌++◌, map}
use Rattle.lp_plain.specs.declared.free.Part.{Part}
use Rattle.lp_plain.proofs.free.push_terms.Given as goal

abbrev pub invariant-loop-term : goal.invariant-loop-term
invariant-loop-term l = l.left.items ≡ l.fn.left.items ++ map (λ t. Part.Term t l.depth) l.yielded
