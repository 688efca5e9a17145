use Rattle.std.proofs.Common.{◌≤◌, ◌+◌, ℕ, map, take, drop, length}
use Rattle.lp_calculus.specs.Types.{Ty}
use Rattle.lp_term.specs.Nodes.{Nodes, Extends}
use Rattle.lp_infer.specs.Postfix.{mark}
use Rattle.lp_infer.specs.Filling.{Forms, form_all}
use Rattle.lp_infer.specs.inner.Parts.{all_arguments, HaveParts}
use Rattle.lp_infer.proofs.terms.Terms.formula.Given as goal

abbrev pub invariant-loop-step : goal.invariant-loop-step
invariant-loop-step l = record {
  kept : Extends l.fn.bank l.bank;
  forms : (b : Nodes) (τ : ℕ → Ty) → Forms l.fn.bank l.bank l.types l.fn.self l.self (form_all (map (mark l.source b l.count τ) (take l.step-index l.steps)));
  parts : HaveParts (drop l.step-index l.steps) (length l.self.stack.items);
  arguments : l.self.used + all_arguments (drop l.step-index l.steps) ≤ length l.types;
}
