use Rattle.lp_build.proofs.Texting.{line_told}
use Rattle.lp_build.proofs.texts.declare_one.Goals as goal

pub returns-in-Err-clause-cause : goal.returns-in-Err-clause-cause
returns-in-Err-clause-cause c =
    line_told c.args.table.now c.args.source.now c.spelled_at.result.now c.args.line c.in-Err.fault c.syntax_fault.result c.spelled_at.ensures c.in-Err.ensures.cause c.syntax_fault.ensures.same
