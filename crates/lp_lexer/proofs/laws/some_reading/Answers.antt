use Rattle.lp_lexer.proofs.Reading.{reading_is}
use Rattle.lp_lexer.proofs.laws.some_reading.Goals as goal

pub returns : goal.returns
returns c = λ text. reading_is text
