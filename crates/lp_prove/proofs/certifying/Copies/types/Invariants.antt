use Rattle.std.proofs.Common.{◌≡◌, length}
use Rattle.std.specs.Prelude.{All}
use Rattle.lp_term.specs.Nodes.{Extends}
use Rattle.lp_prove.specs.Within.{IsTypeIn}
use Rattle.lp_prove.proofs.certifying.Copies.types.Given as goal

abbrev pub invariant-types : goal.invariant-types
invariant-types l = record {
  kept : Extends l.fn.to l.to;
  within : All (IsTypeIn l.to) l.made.items;
  count : length l.made.items ≡ l.at;
}
