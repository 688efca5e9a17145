use Rattle.std.proofs.Common.{◌<◌, length}
use Rattle.std.specs.Prelude.{All}
use Rattle.lp_term.specs.Nodes.{Extends}
use Rattle.lp_model.specs.Pair.{Closing}
use Rattle.lp_pattern.specs.Under.{IsReading}
use Rattle.lp_pattern.specs.Stripping.{IsShut}
use Rattle.lp_pattern.specs.FillingTerms.{AreAllFilled}
use Rattle.lp_pattern.specs.inner.Making.{terms_left}
use Rattle.lp_pattern.proofs.fill.filled.Given as goal

abbrev pub invariant-terms : goal.invariant-terms
invariant-terms l = record {
  kept : Extends l.fn.bank l.bank;
  later : Extends l.initial.bank l.bank;
  inside : All (λ t. t.0 < length l.bank.terms) l.left.items;
  filled : (c : Closing) → IsReading l.fn.bank l.bindings c → IsShut c → AreAllFilled l.bank c l.done;
}

abbrev pub decreases-terms : goal.decreases-terms
decreases-terms l = terms_left l.done l.left.items
