use Rattle.std.proofs.Common.{◌≡◌, ◌++◌, map}
use Rattle.lp_sig.specs.declared.interned.Task.TheVariants.{Visit}
use Rattle.lp_sig.proofs.interned.push_visits.Given as goal

abbrev pub invariant-loop-id : goal.invariant-loop-id
invariant-loop-id l = l.work.items ≡ l.fn.work.items ++ map (λ t. Visit t) l.yielded
