use Rattle.std.proofs.Common.{◌≡◌, take}
use Rattle.std.specs.Prelude.{Contains}
use Rattle.lp_sig.specs.Pieces.{spelled}
use Rattle.lp_infer.specs.Names.{words_of, IsNoKind}
use Rattle.lp_infer.specs.Scanning.{Finds}
use Rattle.lp_infer.proofs.names.Names.check_note.Given as goal

abbrev pub invariant-loop-node : goal.invariant-loop-node
invariant-loop-node l = record {
  found : Finds (λ s. Contains (words_of (take l.node-index l.note.nodes.items)) s × IsNoKind l.signature (spelled l.source s)) l.fn.self.fault l.self.fault;
  bound : l.self.bound ≡ l.fn.self.bound;
}
