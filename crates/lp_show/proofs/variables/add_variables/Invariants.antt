use Rattle.std.proofs.Common.{◌≡◌, ◌<◌, length}
use Rattle.std.specs.Prelude.{All}
use Rattle.lp_term.specs.Nodes.{tree}
use Rattle.lp_term.specs.Walk.{sizes}
use Rattle.lp_model.specs.Shown.{with_variables}
use Rattle.lp_show.specs.Spines.{with_all}
use Rattle.lp_show.proofs.variables.add_variables.Given as goal

abbrev pub invariant-terms : goal.invariant-terms
invariant-terms l = record {
  same : with_all l.bank l.seen.keys l.left.items ≡ with_variables l.fn.seen.keys (tree l.bank l.fn.term.0);
  within : All (λ t. t.0 < length l.bank.terms) l.left.items;
}

abbrev pub decreases-terms : goal.decreases-terms
decreases-terms l = sizes l.bank l.left.items
