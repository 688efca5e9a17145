use Rattle.lp_verify.specs.inner.Language.{AreSchemes}
use Rattle.lp_verify.proofs.tables.Tables.new.Given as goal

abbrev pub invariant-loop-number : goal.invariant-loop-number
invariant-loop-number l = AreSchemes l.language_bank l.language.items l.number
