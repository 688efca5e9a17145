use Rattle.lp_lexer.proofs.EachLongest.{each_longest}
use Rattle.lp_lexer.proofs.Longest.{what_stands}
use Rattle.lp_lexer.proofs.OnlyOne.{only_that}
use Rattle.lp_lexer.proofs.laws.tokens_are_longest.Goals as goal

pub returns-clause-exactly : goal.returns-clause-exactly
returns-clause-exactly c = λ text p h. record { stands = what_stands text p h; only = only_that text p h }

pub returns-clause-each : goal.returns-clause-each
returns-clause-each c = λ text ts r d. each_longest text 0 ts r d
