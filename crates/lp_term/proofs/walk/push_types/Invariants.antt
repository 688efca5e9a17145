use Rattle.std.proofs.Common.{◌≡◌, ◌++◌, map}
use Rattle.lp_term.specs.declared.walked.Node.{Node}
use Rattle.lp_term.specs.inner.Walking.{visits}
use Rattle.lp_term.proofs.walk.push_types.Given as goal

abbrev pub invariant-loop-id : goal.invariant-loop-id
invariant-loop-id l = l.tasks.items ≡ l.initial.tasks.items ++ visits (map (λ i. Node.Type i) (map (λ t. t.0) l.yielded))
