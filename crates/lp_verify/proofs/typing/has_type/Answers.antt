use Rattle.lp_verify.proofs.TermsMade.{same_test, no_test}
use Rattle.lp_verify.proofs.typing.has_type.Goals as goal

pub returns-in-Some : goal.returns-in-Some
returns-in-Some c = λ x p T a t. same_test x c.args.found c.in-Some.found c.args.of p T c.in-Some.is a t

pub returns-in-None : goal.returns-in-None
returns-in-None c = λ x p T a t. no_test x c.args.found p T c.in-None.is a
