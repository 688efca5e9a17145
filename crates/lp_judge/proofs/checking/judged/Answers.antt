use Rattle.std.proofs.Common.{arith, map, subst}
use Rattle.lp_cert.specs.Certified.{certificate_of, ground_of, query_of}
use Rattle.lp_cert.specs.Standing.{AreNumbersInside}
use Rattle.lp_judge.specs.Checked.{IsVerdictOn}
use Rattle.lp_judge.proofs.Checkings.{judged_on}
use Rattle.lp_judge.proofs.checking.judged.Goals as goal

pub returns-in-Ok-said_of_verdict-clause-right : goal.returns-in-Ok-said_of_verdict-clause-right
returns-in-Ok-said_of_verdict-clause-right c held name text = λ asked. (
  _,
  c.in-Ok-verdict_on.verdict,
  judged_on held name text _ _ _ c.verdict_on.new.names c.args.asked.query c.in-Ok.certificates.items _ c.in-Ok-verdict_on.verdict asked
      c.read.ensures.kept c.verdict_on.ensures.kept c.read.ensures.same c.verdict_on.ensures.same c.in-Ok.ensures.inside c.in-Ok.ensures.found.0
      c.in-Ok.ensures.found.1 (omega (arith, c.len.ensures, c.in-Ok.certificates.ok))
      (let after = c.verdict_on.new.names.program in
      subst (λ cs. AreNumbersInside c.read.new.names.program c.args.asked.query cs
      → IsVerdictOn (ground_of after) (query_of after.bank c.args.asked.query) (map (certificate_of after.bank) cs) c.in-Ok-verdict_on.verdict)
      c.as_slice.ensures.value c.in-Ok-verdict_on.ensures.right),
  c.in-Ok-said_of_verdict.ensures,
)
