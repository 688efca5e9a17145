use Rattle.lp_lexer.proofs.Once.{one_reading}
use Rattle.lp_lexer.proofs.laws.one_reading.Goals as goal

pub returns : goal.returns
returns c = λ text ts us r q d e. let z = one_reading text 0 ts us r q d e in (z.tokens, z.result)
