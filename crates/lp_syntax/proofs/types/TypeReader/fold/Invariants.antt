use Rattle.std.proofs.Common.{◌≡◌, ℕ, length}
use Rattle.lp_syntax.specs.TypeHeld.{TypeText, IsWhole}
use Rattle.lp_syntax.specs.TypeMachine.{closed, left}
use Rattle.lp_syntax.specs.TypeViews.{waits_of}
use Rattle.lp_syntax.proofs.types.TypeReader.fold.Given as goal

abbrev pub invariant-over : goal.invariant-over
invariant-over l = record {
  closed : closed (waits_of l.self.waiting.items) ≡ closed (waits_of l.fn.self.waiting.items);
  left : left (waits_of l.self.waiting.items) ≡ left (waits_of l.fn.self.waiting.items);
  held : (x : TypeText) (at : ℕ) → IsWhole x l.fn.self.nodes.items l.fn.self.waiting.items at l.last → IsWhole x l.self.nodes.items l.self.waiting.items at l.node;
}

abbrev pub decreases-over : goal.decreases-over
decreases-over l = length l.self.waiting.items
