use Rattle.std.proofs.Common.{◌≡◌, reverse}
use Rattle.lp_term.specs.Nodes.{Extends}
use Rattle.lp_infer.specs.Numbering.{type_variables}
use Rattle.lp_infer.specs.Meeting.{met}
use Rattle.lp_infer.specs.ReadingOff.{bound_type, IsReadMemo, pending, cost}
use Rattle.lp_infer.specs.inner.Waiting.{WasRead, Serves}
use Rattle.lp_infer.proofs.reading.Reading.read.Given as goal

abbrev pub invariant-loop-task : goal.invariant-loop-task
invariant-loop-task l = record {
  kept : Extends l.fn.to l.to;
  memo : IsReadMemo (bound_type l.from l.bindings.made) l.fn.to l.fn.self → IsReadMemo (bound_type l.from l.bindings.made) l.to l.self;
  order : IsReadMemo (bound_type l.from l.bindings.made) l.fn.to l.fn.self →
      met l.self.numbers.keys (pending (bound_type l.from l.bindings.made) (reverse l.work.items)) ≡ met l.fn.self.numbers.keys (type_variables (bound_type l.from l.bindings.made l.id.0));
  serves : Serves (bound_type l.from l.bindings.made) l.from l.id.0 (WasRead l.self) (reverse l.work.items);
}

abbrev pub decreases-loop-task : goal.decreases-loop-task
decreases-loop-task l = cost (bound_type l.from l.bindings.made) (reverse l.work.items)
