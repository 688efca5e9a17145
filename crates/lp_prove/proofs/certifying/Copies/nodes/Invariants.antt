use Rattle.std.specs.Prelude.{All}
use Rattle.lp_term.specs.Nodes.{Extends}
use Rattle.lp_prove.specs.Within.{IsNodeIn}
use Rattle.lp_prove.proofs.certifying.Copies.nodes.Given as goal

abbrev pub invariant-nodes : goal.invariant-nodes
invariant-nodes l = record {
  kept : Extends l.fn.to l.to;
  within : All (IsNodeIn l.to) l.made.items;
}
