use Rattle.lp_lambda.proofs.Accepted.{sentence_accepted, query_accepted, accepted_no_pairs}
use Rattle.lp_lambda.proofs.runs.accepted_texts_leave_no_equation.Goals as goal

pub returns-clause-sentences : goal.returns-clause-sentences
returns-clause-sentences c = λ D w h. sentence_accepted D w h

pub returns-clause-queries : goal.returns-clause-queries
returns-clause-queries c = λ q w h. query_accepted q w h

pub returns-clause-answers : goal.returns-clause-answers
returns-clause-answers c = λ d std l F P s x h q gs t e p n j m steps answers. accepted_no_pairs d std l F P s x h q gs t e p n j m steps answers
