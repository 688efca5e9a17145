use Rattle.std.proofs.Common.{◌≡◌, length}
use Rattle.std.specs.Prelude.{List}
use Rattle.lp_term.specs.Nodes.{Nodes}
use Rattle.lp_cert.specs.Written.{Node}
use Rattle.lp_cert.specs.inner.Left.{Left}
use Rattle.lp_cert.specs.inner.Turned.{IsReadyWork, rest_in}
use Rattle.lp_cert.proofs.work.Work.next.Given as goal

abbrev pub invariant-tasks : goal.invariant-tasks
invariant-tasks l = record {
  known : l.self.known ≡ l.fn.self.known;
  theory : l.self.theory ≡ l.fn.self.theory;
  ready : (b : Nodes) → IsReadyWork b l.fn.self → IsReadyWork b l.self;
  rest : (b : Nodes) → rest_in b l.fn.self ≡ rest_in b l.self;
  left : (b : Nodes) → (ns : List Node) → Left b l.self ns → Left b l.fn.self ns;
}

abbrev pub decreases-tasks : goal.decreases-tasks
decreases-tasks l = length l.self.tasks.items
