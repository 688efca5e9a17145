use Rattle.std.proofs.Common.{◌≡◌, ℕ, length, Option, Some, None, ◌<◌}
use Rattle.std.specs.Prelude.{All}
use Rattle.lp_term.specs.Nodes.{Extends}
use Rattle.lp_model.specs.Eigens.{as_eigen}
use Rattle.lp_model.specs.Pair.{Closing}
use Rattle.lp_pattern.specs.Under.{IsReading}
use Rattle.lp_pattern.specs.Stripping.{IsShut, AllFormed, AllCome, read_at}
use Rattle.lp_pattern.proofs.patterns.contracted.Given as goal

abbrev pub invariant-parts : goal.invariant-parts
invariant-parts l = record {
  kept : Extends l.fn.bank l.bank;
  known : All (λ w. w.term.0 < length l.bank.terms) l.left.items;
  parts : (c : Closing) → IsReading l.fn.bank l.bindings c → IsShut c → (m : ℕ) (o : Option ℕ) → as_eigen m (read_at l.fn.bank c l.fn.opened.level l.fn.opened.depth l.fn.term) ≡ Some o →
      AllFormed m l.bank c l.left.items × (AllCome m l.bank c l.left.items → o ≡ l.found) × ((AllCome m l.bank c l.left.items → ⊥) → o ≡ None);
}
