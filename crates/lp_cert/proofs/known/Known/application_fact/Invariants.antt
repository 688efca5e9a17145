use Rattle.std.proofs.Common.{◌<◌, map, take, length}
use Rattle.std.specs.Prelude.{All}
use Rattle.lp_calculus.specs.Term.{apply}
use Rattle.lp_term.specs.Nodes.{Nodes, tree}
use Rattle.lp_cert.specs.Facts.{AreFacts, IsKnown}
use Rattle.lp_cert.proofs.known.Known.application_fact.Given as goal

abbrev pub invariant-loop-argument : goal.invariant-loop-argument
invariant-loop-argument l =
    (b : Nodes) → IsKnown b l.self → l.fn.head.0 < length l.self.terms.items → All (λ i. i < length l.self.terms.items) (map (λ t. t.0) l.arguments) →
    AreFacts l.facts (apply (tree b l.fn.head.0) (map (tree b) (map (λ t. t.0) (take l.argument-index l.arguments))))
