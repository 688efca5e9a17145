use Rattle.lp_cert.specs.Standing.{AreNumbersInside}
use Rattle.lp_cert.specs.Certified.{ground_of, query_of}
use Rattle.lp_judge.proofs.Insides.{verdicts_right}
use Rattle.lp_judge.proofs.checking.verdict_on.Goals as goal

pub returns-clause-right : goal.returns-clause-right
returns-clause-right c = λ inside.
    verdicts_right (AreNumbersInside c.args.names.now.program c.args.query.now c.args.certificates.now)
    (ground_of c.check.new.names.program) (query_of c.check.new.names.program.bank c.args.query.now)
    c.check.new.names.program.bank c.args.certificates.now c.check.result
    c.check.ensures.accepted c.check.ensures.rejected c.check.ensures.deep inside
