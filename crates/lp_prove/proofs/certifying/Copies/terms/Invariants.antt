use Rattle.std.proofs.Common.{◌≡◌, length}
use Rattle.std.specs.Prelude.{All}
use Rattle.lp_term.specs.Nodes.{Extends}
use Rattle.lp_prove.specs.Within.{IsTermIn}
use Rattle.lp_prove.proofs.certifying.Copies.terms.Given as goal

abbrev pub invariant-terms : goal.invariant-terms
invariant-terms l = record {
  kept : Extends l.fn.to l.to;
  within : All (IsTermIn l.to) l.made.items;
  count : length l.made.items ≡ l.at;
}
