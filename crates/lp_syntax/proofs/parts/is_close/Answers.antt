use Rattle.std.proofs.Common.{sym, ◌∙◌}
use Rattle.lp_syntax.specs.declared.class.Class.TheVariants as class
use Rattle.lp_syntax.proofs.LineCode.{class_within}
use Rattle.lp_syntax.proofs.parts.is_close.Goals as goal

pub returns-in-Close-clause-within : goal.returns-in-Close-clause-within
returns-in-Close-clause-within c = λ e. class_within c.args.input.now.source.now c.args.input.now.tokens.now c.args.at class.Close (sym c.class.ensures ∙ c.in-Close.is) (λ z. cc)
