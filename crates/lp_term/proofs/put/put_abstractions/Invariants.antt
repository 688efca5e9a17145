use Rattle.std.proofs.Common.{◌≡◌, ◌<◌, length}
use Rattle.lp_term.specs.Nodes.{tree, Extends}
use Rattle.lp_term.specs.Spine.{abstractions}
use Rattle.lp_term.proofs.put.put_abstractions.Given as goal

abbrev pub invariant-levels : goal.invariant-levels
invariant-levels l = record {
  kept : Extends l.fn.bank l.bank;
  within : l.top.0 < length l.bank.terms;
  same : abstractions l.left (tree l.bank l.top.0) ≡ abstractions l.fn.count (tree l.fn.bank l.fn.body.0);
}

abbrev pub decreases-levels : goal.decreases-levels
decreases-levels l = l.left
