use Rattle.std.proofs.Common.{map, take}
use Rattle.lp_calculus.specs.Term.{apply}
use Rattle.lp_term.specs.Nodes.{tree}
use Rattle.lp_module.specs.inner.Judging.{IsMeasure}
use Rattle.lp_module.proofs.measure.Measures.application.Given as goal

abbrev pub invariant-loop-argument : goal.invariant-loop-argument
invariant-loop-argument l = IsMeasure l.measure (apply (tree l.bank l.fn.head.0) (map (tree l.bank) (map (λ t. t.0) (take l.argument-index l.arguments))))
