use Rattle.std.proofs.Common.{◌≡◌, map}
use Rattle.lp_term.specs.declared.walked.Node.{Node}
use Rattle.lp_term.specs.inner.Walking.{made_of, or_own}
use Rattle.lp_term.proofs.changed.Changed.all_types.Given as goal

abbrev pub invariant-loop-id : goal.invariant-loop-id
invariant-loop-id l = map (λ t. t.0) l.made.items ≡ map (λ t. or_own (made_of l.self (Node.Type t.0)) t.0) l.yielded
