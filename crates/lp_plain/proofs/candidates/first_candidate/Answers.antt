use Rattle.std.proofs.Common.{subst, sym}
use Rattle.lp_plain.specs.Candidates.{IsChain}
use Rattle.lp_plain.proofs.candidates.first_candidate.Goals as goal

pub returns : goal.returns
returns c = λ older assumed ns ks n h d.
    c.assumed_or_first.ensures.left older ns ks (subst (λ z. IsChain older z ns) (sym (c.newest_of-assumed.ensures assumed n)) h) d
