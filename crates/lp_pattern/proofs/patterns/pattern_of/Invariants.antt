use Rattle.std.proofs.Common.{◌≡◌, ℕ, length, map, drop}
use Rattle.lp_term.specs.Nodes.{Extends}
use Rattle.lp_model.specs.Pair.{Closing}
use Rattle.lp_pattern.specs.Under.{IsReading}
use Rattle.lp_pattern.specs.Stripping.{IsShut, read_at}
use Rattle.lp_pattern.proofs.ArgumentRuns.{Eigens}
use Rattle.lp_pattern.proofs.patterns.pattern_of.Given as goal

abbrev pub invariant-loop-place : goal.invariant-loop-place
invariant-loop-place l = record {
  kept : Extends l.fn.bank l.bank;
  count : length l.eigens.items ≡ l.place;
  rest : (c : Closing) → IsReading l.fn.bank l.bindings c → IsShut c → (m : ℕ) →
      Eigens m (map (read_at l.fn.bank c l.opened.level l.opened.depth) l.arguments) l.eigens.items (map (read_at l.fn.bank c l.opened.level l.opened.depth) (drop l.place l.arguments));
}
