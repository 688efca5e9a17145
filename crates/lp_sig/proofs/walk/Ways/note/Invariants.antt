use Rattle.std.proofs.Common.{◌++◌, map}
use Rattle.lp_sig.specs.Said.{said_in}
use Rattle.lp_sig.specs.Knowing.{Knows}
use Rattle.lp_sig.specs.Abbreviations.{Seen, KnowsUses}
use Rattle.lp_sig.proofs.Abbreviating.{seen_to}
use Rattle.lp_sig.proofs.walk.Ways.note.Given as goal

abbrev pub invariant-loop-line : goal.invariant-loop-line
invariant-loop-line l = (z : Seen) → Knows l.names (z.said ++ said_in l.source l.text.lines.items) → KnowsUses (map (λ out. out.items) l.fn.self.ways.items) z → KnowsUses (map (λ out. out.items) l.self.ways.items) (seen_to z l.source l.text.lines.items l.line-index)
