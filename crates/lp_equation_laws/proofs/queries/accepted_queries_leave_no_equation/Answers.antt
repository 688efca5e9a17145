use Rattle.lp_equation_laws.proofs.Printing.{no_equation}
use Rattle.lp_equation_laws.proofs.queries.accepted_queries_leave_no_equation.Goals as goal

pub returns : goal.returns
returns c = λ told name text q judged d P gs f n j m steps answers.
    no_equation c.accepted_texts_leave_no_equation.ensures.sentences c.accepted_texts_leave_no_equation.ensures.queries c.renumbered_pattern_text_stays_so.ensures.text
    c.renumbered_pattern_text_stays_so.ensures.within q judged d P gs f n j m steps answers
