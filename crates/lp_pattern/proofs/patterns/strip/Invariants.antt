use Rattle.std.proofs.Common.{◌≡◌, ℕ, ◌+◌}
use Rattle.lp_calculus.specs.Term.{Term}
use Rattle.lp_term.specs.Nodes.{Extends}
use Rattle.lp_model.specs.Pair.{Closing}
use Rattle.lp_pattern.specs.Under.{IsReading, under}
use Rattle.lp_pattern.specs.Stripping.{IsShut, Strips}
use Rattle.lp_pattern.proofs.patterns.strip.Given as goal

abbrev pub invariant-loop-count : goal.invariant-loop-count
invariant-loop-count l = record {
  kept : Extends l.fn.bank l.bank;
  strips : (c : Closing) → IsReading l.fn.bank l.bindings c → IsShut c → (n m : ℕ) (s : Term) → m ≡ l.count + n → Strips n (under l.bank c l.at) s → Strips m (under l.fn.bank c l.fn.term) s;
}
