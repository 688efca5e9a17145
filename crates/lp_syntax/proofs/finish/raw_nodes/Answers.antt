use Rattle.std.proofs.Common.{◌<◌, length, ap, is_ok, arith}
use Rattle.std.proofs.ResultArms.{chosen}
use Rattle.std.proofs.lemmas.Grind.{common_steps}
use Rattle.lp_syntax.specs.Tokens.{lexemes, spot_at}
use Rattle.lp_syntax.proofs.RawTrees.{one_more_raw}
use Rattle.lp_syntax.proofs.finish.raw_nodes.Goals as goal

pub loop-node-preserved : goal.loop-node-preserved
loop-node-preserved c =
    let l : c.loop-node.node-index < length c.args.nodes.now = grind (arith, common_steps) in
    one_more_raw (spot_at c.args.input.now.file c.args.input.now.source.now c.args.input.now.tokens.now)
    (lexemes c.args.input.now.source.now c.args.input.now.tokens.now) c.args.nodes.now c.loop-node.raw.items _ c.loop-node.node-index _
    c.in_ok-text.text l c.loop-node.invariant c.in_ok-text.ensures (chosen _ _ _ _ c.push.ensures.items (ap is_ok c.in_ok-push.was))
