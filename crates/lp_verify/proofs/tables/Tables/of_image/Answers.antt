use Rattle.std.proofs.Common.{◌∙◌}
use Rattle.std.proofs.lemmas.Result.{IfOk-weaker}
use Rattle.lp_verify.proofs.Entries.{image_joined}
use Rattle.lp_verify.proofs.tables.Tables.of_image.Goals as goal

pub returns-clause-tables : goal.returns-clause-tables
returns-clause-tables c = IfOk-weaker c.new.result _ _ (λ t e. e ∙ image_joined c.args.image.now c.in_ok-arities.arities.items c.in_ok-declared.declared.items c.in_ok-arities.ensures c.in_ok-declared.ensures) c.new.ensures.tables
