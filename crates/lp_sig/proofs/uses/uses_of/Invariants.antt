use Rattle.std.proofs.Common.{◌≡◌, List, take}
use Rattle.lp_sig.specs.Rows.{Row}
use Rattle.lp_sig.specs.Said.{Said}
use Rattle.lp_sig.specs.Knowing.{Knows}
use Rattle.lp_sig.specs.Abbreviations.{abbreviation_names, uses_in}
use Rattle.lp_sig.proofs.uses.uses_of.Given as goal

abbrev pub invariant-loop-node : goal.invariant-loop-node
invariant-loop-node l = (said : List (Row Said)) → Knows l.names said → l.uses.items ≡ uses_in (abbreviation_names said) l.source (take l.node-index l.raw.nodes.items)
