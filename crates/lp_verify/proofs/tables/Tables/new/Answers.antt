use Rattle.std.proofs.Common.{◌+◌, arith}
use Rattle.lp_verify.proofs.LanguageTypes.{one_scheme}
use Rattle.lp_verify.proofs.tables.Tables.new.Goals as goal

pub loop-number-preserved : goal.loop-number-preserved
loop-number-preserved c =
    let n = c.loop-number.number in
    one_scheme c.loop-number.language_bank c.put_language.new.bank c.loop-number.language.items c.push.new.self.items n (n + 1) c.in_ok-scheme.scheme c.loop-number.invariant c.in_ok-scheme.ensures.0 c.in_ok-scheme.ensures.1 c.in_ok-push.ensures.items (omega arith)
