use Rattle.lp_verify.proofs.TermsMade.{other_test, no_other}
use Rattle.lp_verify.proofs.typing.is_other.Goals as goal

pub returns-in-Some : goal.returns-in-Some
returns-in-Some c = λ x p T a t. other_test x c.args.found c.in-Some.found c.args.of p T c.in-Some.is a t

pub returns-in-None : goal.returns-in-None
returns-in-None c = λ x p T a t. no_other x c.args.found p T c.in-None.is a
