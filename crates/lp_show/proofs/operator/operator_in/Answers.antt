use Rattle.std.proofs.Common.{◌∙◌, sym}
use Rattle.lp_show.specs.Scene.{pieces}
use Rattle.lp_show.proofs.Pieces.{no_operation}
use Rattle.lp_show.proofs.operator.operator_in.Goals as goal

pub returns-in_default-operands_of-clause-form : goal.returns-in_default-operands_of-clause-form
returns-in_default-operands_of-clause-form c = λ e scene d k.
    no_operation e c.in-Some.fixity c.in-Some.number (pieces scene d c.args.arguments.now) (sym k.fixity ∙ c.in-Some.is) (c.in_default-operands_of.ensures.form scene d c.in-Some.number e.name)
