use Rattle.std.proofs.Common.{refl, sym, arith}
use Rattle.lp_lemmas.proofs.Lists.{get_read}
use Rattle.lp_term.specs.Nodes.{tree, type_tree}
use Rattle.lp_bytes.proofs.Lengthened.{more_nothing}
use Rattle.lp_cert.specs.Spelling.{spelled_node}
use Rattle.lp_cert.specs.Written.{node_of}
use Rattle.lp_cert.proofs.Waits.{entry_written, entries_written}
use Rattle.lp_cert.proofs.nodes.write_proof.Goals as goal

pub loop-node-init : goal.loop-node-init
loop-node-init c = sym (more_nothing c.args.writer.now)

pub loop-node-preserved : goal.loop-node-preserved
loop-node-preserved c =
    entry_written (node_of c.args.bank.now) spelled_node c.args.nodes.now c.loop-node.node-index _ _ _ _ (get_read c.args.nodes.now c.args.nodes.now c.loop-node.node-index _ _ refl (omega (arith, c.loop-node-test.true)) c.node-item.is)
    c.loop-node.invariant c.in_ok-write_node.ensures

pub returns : goal.returns
returns c = entries_written (node_of c.args.bank.now) spelled_node c.args.nodes.now c.loop-node.node-index _ _ (omega (arith, c.loop-node-test.false)) c.loop-node.invariant
