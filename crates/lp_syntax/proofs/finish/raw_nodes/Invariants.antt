use Rattle.std.proofs.Common.{take}
use Rattle.lp_syntax.specs.Tokens.{lexemes, spot_at}
use Rattle.lp_syntax.specs.Raw.{AreRaw}
use Rattle.lp_syntax.proofs.finish.raw_nodes.Given as goal

abbrev pub invariant-loop-node : goal.invariant-loop-node
invariant-loop-node l = AreRaw (spot_at l.input.file l.input.source.now l.input.tokens.now) (lexemes l.input.source.now l.input.tokens.now) (take l.node-index l.nodes) l.raw.items
