use Rattle.std.proofs.Common.{◌≡◌, map, take, true}
use Rattle.lp_calculus.specs.Term.{apply}
use Rattle.lp_term.specs.Nodes.{tree}
use Rattle.lp_term.specs.Facts.{AreFacts, IsNoAbstraction}
use Rattle.lp_term.proofs.bank.Bank.facts_applied.Given as goal

abbrev pub invariant-loop-arg : goal.invariant-loop-arg
invariant-loop-arg l = record {
  facts : AreFacts l.facts (apply (tree l.self l.fn.head.0) (map (tree l.self) (map (λ t. t.0) (take l.arg-index l.args))));
  head : l.facts.normal ≡ true → IsNoAbstraction (apply (tree l.self l.fn.head.0) (map (tree l.self) (map (λ t. t.0) (take l.arg-index l.args))));
}
