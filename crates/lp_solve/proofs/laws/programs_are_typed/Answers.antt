use Rattle.lp_solve.proofs.Texts.Grown.{clauses_read}
use Rattle.lp_solve.proofs.Texts.Program.{program_typed}
use Rattle.lp_solve.proofs.laws.programs_are_typed.Goals as goal

pub returns-clause-typed : goal.returns-clause-typed
returns-clause-typed c = λ told name built l d t. program_typed l.sources built l.program d t

pub returns-clause-read : goal.returns-clause-read
returns-clause-read c = λ told name built l b e. clauses_read l.sources built l.program b e
