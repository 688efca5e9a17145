use Rattle.lp_equation_laws.proofs.Printing.{no_equation_printed}
use Rattle.lp_equation_laws.proofs.queries.accepted_queries_print_no_equation.Goals as goal

pub returns : goal.returns
returns c = λ told name query q judged watchers steps answers status text a.
    no_equation_printed q watchers steps answers status text (λ d P gs f n j m. c.accepted_queries_leave_no_equation.ensures told name query q judged d P gs f n j m steps answers) a
