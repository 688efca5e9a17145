use Rattle.lp_machine.proofs.Marks.{gone_back}
use Rattle.lp_machine.proofs.heap.Heap.take_choice.Goals as goal

pub invariant_of-self-2 : goal.invariant_of-self-2
invariant_of-self-2 c = gone_back _ _ _ _ _ c.in-Some.ensures c.undo.ensures.marks c.self.invariant
