use Rattle.std.proofs.Common.{arith}
use Rattle.lp_judge.proofs.Checkings.{accepted_on}
use Rattle.lp_judge.proofs.proving.verdict.Goals as goal

pub returns : goal.returns
returns c held name text = λ asked a.
    accepted_on held name text _ _ c.read.new.names c.check.new.names c.args.asked.query c.in-Ok.certificates.items _ asked
    c.read.ensures.kept c.check.ensures.kept c.read.ensures.same c.check.ensures.same c.in-Ok.ensures.inside c.in-Ok.ensures.found.0 c.in-Ok.ensures.found.1
    (omega (arith, c.len-count.ensures, c.in-Ok.certificates.ok)) (rw c.as_slice.ensures.value at (c.in_ok-verdict.ensures.accepted a))
