use Rattle.std.proofs.Common.{ℕ, List, drop, length, map}
use Rattle.lp_term.specs.Nodes.{Extends}
use Rattle.lp_term.specs.declared.node.TermId.{TermId}
use Rattle.lp_plain.specs.Heads.{pair_in}
use Rattle.lp_plain.specs.Instances.{AreValues}
use Rattle.lp_plain.specs.Scopes.{IsScope}
use Rattle.lp_plain.specs.Attempted.{AreWrittenIn, becomes}
use Rattle.lp_plain.proofs.HeadPairs.{IsPairedOn}
use Rattle.lp_plain.proofs.attempt.term_pairs.Given as goal

abbrev pub invariant-places : goal.invariant-places
invariant-places l = record {
  kept : Extends l.fn.bank l.bank;
  pairs : (nb nv : ℕ) → (vs : List TermId) → IsScope l.scopes nb nv l.values.scope vs → AreValues l.fn.bank vs → (ar : ℕ → ℕ) → (k : ℕ) → AreWrittenIn l.fn.bank ar k (length vs) l.heads.items →
      IsPairedOn l.bank l.args l.level (becomes l.fn.bank vs l.values.types) (map (pair_in l.fn.bank) (drop l.number l.heads.items)) (map (pair_in l.fn.bank) l.heads.items) l.pairs.items;
}
