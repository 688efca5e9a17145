use Rattle.lp_lexer.proofs.Nesting.{closes_first, ends_found}
use Rattle.lp_lexer.proofs.laws.comments_nest.Goals as goal

pub returns : goal.returns
returns c = λ n bytes. record { ends = closes_first n bytes; only = ends_found n bytes }
