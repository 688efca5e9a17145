use Rattle.std.proofs.Common.{◌∙◌}
use Rattle.std.proofs.lemmas.Result.{IfOk-weaker}
use Rattle.lp_verify.proofs.Entries.{object_joined}
use Rattle.lp_verify.proofs.tables.Tables.of_object.Goals as goal

pub returns-clause-tables : goal.returns-clause-tables
returns-clause-tables c = IfOk-weaker c.new.result _ _ (λ t e. e ∙ object_joined c.args.object.now c.in_ok-arities.arities.items c.in_ok-declared.declared.items c.in_ok-arities.ensures c.in_ok-declared.ensures) c.new.ensures.tables
