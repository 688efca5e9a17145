use Rattle.std.proofs.Common.{map, take, drop, length, List, ℕ}
use Rattle.std.specs.Prelude.{All}
use Rattle.lp_term.specs.Nodes.{type_tree}
use Rattle.lp_infer.specs.Postfix.{mark, IsStep}
use Rattle.lp_infer.specs.Running.{run}
use Rattle.lp_infer.specs.Making.{Acts}
use Rattle.lp_infer.specs.inner.Parts.{HaveParts, HaveOpen}
use Rattle.lp_infer.proofs.generate.Typing.steps.Given as goal

abbrev pub invariant-loop-step : goal.invariant-loop-step
invariant-loop-step l = record {
  acts : All (IsStep (length l.fn.self.types.types)) l.steps → (text : List ℕ) → Acts l.fn.self l.self (run (map (mark text l.signature.bank l.count (type_tree l.fn.self.types)) (take l.step-index l.steps)));
  parts : HaveParts (drop l.step-index l.steps) (length l.self.stack.items);
  opened : HaveOpen (drop l.step-index l.steps) (length l.self.context.items);
}
