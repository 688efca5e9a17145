use Rattle.std.proofs.Common.{◌++◌, map, take}
use Rattle.lp_sig.specs.Said.{said_in}
use Rattle.lp_sig.specs.Knowing.{Knows}
use Rattle.lp_sig.specs.Modules.{declarations}
use Rattle.lp_sig.specs.Abbreviations.{Seen, KnowsUses, abbreviation_names}
use Rattle.lp_sig.specs.inner.Noting.{seen_lines}
use Rattle.lp_sig.proofs.walk.Ways.note_module.Given as goal

abbrev pub invariant-loop-at : goal.invariant-loop-at
invariant-loop-at l = (z : Seen) → Knows l.names (z.said ++ said_in l.source (declarations l.text.lines.items)) → KnowsUses (map (λ out. out.items) l.fn.self.ways.items) z →
    KnowsUses (map (λ out. out.items) l.self.ways.items) (seen_lines (abbreviation_names (z.said ++ said_in l.source (declarations l.text.lines.items))) z l.source (declarations (take l.at l.text.lines.items)))
