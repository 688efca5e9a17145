use Rattle.lp_plain.specs.inner.Programs.{ArePut}
use Rattle.lp_plain.proofs.start.put_program.Given as goal

abbrev pub invariant-formulas : goal.invariant-formulas
invariant-formulas l = ArePut l.formulas.items l.fn.bank l.bank l.fn.table l.table l.spans.items l.at
