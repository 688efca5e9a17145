use Rattle.std.proofs.Common.{map, take}
use Rattle.lp_sig.specs.Loading.{NoneLeads}
use Rattle.lp_sig.proofs.walk.Ways.first_leading.Given as goal

abbrev pub invariant-loop-word : goal.invariant-loop-word
invariant-loop-word l = NoneLeads (map (λ out. out.items) l.self.ways.items) (take l.word-index l.words) l.to
