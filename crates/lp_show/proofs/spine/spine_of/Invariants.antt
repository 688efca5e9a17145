use Rattle.std.proofs.Common.{◌≡◌, ◌<◌, length}
use Rattle.std.specs.Prelude.{All}
use Rattle.lp_calculus.specs.Term.{apply}
use Rattle.lp_term.specs.Nodes.{tree}
use Rattle.lp_term.specs.Walk.{size, trees}
use Rattle.lp_show.proofs.spine.spine_of.Given as goal

abbrev pub invariant-down : goal.invariant-down
invariant-down l = record {
  same : tree l.bank l.fn.term.0 ≡ apply (tree l.bank l.head.0) (trees l.bank l.arguments.items);
  head : l.head.0 < length l.bank.terms;
  arguments : All (λ t. t.0 < length l.bank.terms) l.arguments.items;
}

abbrev pub decreases-down : goal.decreases-down
decreases-down l = size (tree l.bank l.head.0)
