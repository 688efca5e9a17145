use Rattle.lp_syntax.proofs.Reading.{term_of_read, read_of_term}
use Rattle.lp_syntax.proofs.laws.reads_the_grammar.Goals as goal

pub returns : goal.returns
returns c = λ ts t. record { sound = term_of_read ts t; complete = read_of_term ts t }
