use Rattle.std.proofs.Common.{◌≡◌, drop}
use Rattle.lp_judge.specs.Negated.{first_among}
use Rattle.lp_judge.proofs.unsupported.first_of.Given as goal

abbrev pub invariant-loop-at : goal.invariant-loop-at
invariant-loop-at l = first_among l.text (drop l.at l.tokens) ≡ first_among l.text l.tokens
