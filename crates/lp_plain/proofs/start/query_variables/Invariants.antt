use Rattle.std.proofs.Common.{◌≡◌, map, length}
use Rattle.lp_term.specs.Nodes.{Extends, tree}
use Rattle.lp_term.specs.Within.{AreTermsOf}
use Rattle.lp_model.specs.Search.{vars_from}
use Rattle.lp_plain.proofs.start.query_variables.Given as goal

abbrev pub invariant-numbers : goal.invariant-numbers
invariant-numbers l = record {
  kept : Extends l.fn.bank l.bank;
  count : length l.variables.items ≡ l.number;
  within : AreTermsOf l.bank l.variables.items;
  trees : map (λ t. tree l.bank t.0) l.variables.items ≡ vars_from l.number 0;
}
