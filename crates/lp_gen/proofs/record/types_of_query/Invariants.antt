use Rattle.std.proofs.Common.{◌≡◌, map}
use Rattle.lp_gen.proofs.record.types_of_query.Given as goal

abbrev pub invariant-loop-of : goal.invariant-loop-of
invariant-loop-of l = l.types.items ≡ map (λ v. v.1) l.yielded
