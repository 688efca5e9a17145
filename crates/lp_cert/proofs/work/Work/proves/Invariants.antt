use Rattle.std.proofs.Common.{◌≡◌, ◌++◌, map, take}
use Rattle.std.specs.Prelude.{All, List}
use Rattle.lp_term.specs.Nodes.{Nodes, Extends, tree}
use Rattle.lp_cert.specs.Facts.{IsKnown}
use Rattle.lp_cert.specs.Written.{Node, node_of}
use Rattle.lp_cert.specs.Run.{proving}
use Rattle.lp_cert.specs.Standing.{IsNodeInside}
use Rattle.lp_cert.specs.inner.Left.{IsIdle, Left, LeftWith, ground_in}
use Rattle.lp_cert.specs.inner.Turned.{At, IsReady, IsReadyWork}
use Rattle.lp_cert.proofs.Judged.{RunsFrom}
use Rattle.lp_cert.proofs.work.Work.proves.Given as goal

abbrev pub invariant-loop-node : goal.invariant-loop-node
invariant-loop-node l = record {
  kept : Extends l.fn.bank l.bank;
  known : IsKnown l.bank l.self.known;
  theory : IsReadyWork l.fn.bank l.fn.self → IsReady l.fn.bank l.fn.goal → All (IsNodeInside l.fn.bank) l.fn.nodes → l.self.theory ≡ l.fn.self.theory;
  ready : IsReadyWork l.fn.bank l.fn.self → IsReady l.fn.bank l.fn.goal → All (IsNodeInside l.fn.bank) l.fn.nodes → IsReadyWork l.bank l.self;
  runs : IsIdle l.fn.self → IsReadyWork l.fn.bank l.fn.self → IsReady l.fn.bank l.fn.goal → All (IsNodeInside l.fn.bank) l.fn.nodes → (b : Nodes) → Extends l.bank b → RunsFrom (ground_in b l.fn.self.theory) (tree b l.fn.goal.0) (At b l.self) (map (node_of b) (take l.node-index l.fn.nodes));
  goes : (b : Nodes) → Extends l.bank b → (ns : List Node) → Left b l.self ns → LeftWith b l.fn.self (proving (tree b l.fn.goal.0)) (map (node_of b) (take l.node-index l.fn.nodes) ++ ns);
}
