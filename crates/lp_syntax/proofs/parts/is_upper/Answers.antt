use Rattle.std.proofs.Common.{sym, ◌∙◌}
use Rattle.lp_syntax.specs.declared.class.Class.TheVariants as class
use Rattle.lp_syntax.proofs.LineCode.{class_within}
use Rattle.lp_syntax.proofs.parts.is_upper.Goals as goal

pub returns-in-Upper-clause-within : goal.returns-in-Upper-clause-within
returns-in-Upper-clause-within c = λ e. class_within c.args.input.now.source.now c.args.input.now.tokens.now c.args.at class.Upper (sym c.class.ensures ∙ c.in-Upper.is) (λ z. cc)
