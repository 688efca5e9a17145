use Rattle.std.proofs.Common.{sym, ◌∙◌}
use Rattle.lp_syntax.specs.declared.class.Class.TheVariants as class
use Rattle.lp_syntax.proofs.LineCode.{class_within}
use Rattle.lp_syntax.proofs.parts.is_lower.Goals as goal

pub returns-in-Lower-clause-within : goal.returns-in-Lower-clause-within
returns-in-Lower-clause-within c = λ e. class_within c.args.input.now.source.now c.args.input.now.tokens.now c.args.at class.Lower (sym c.class.ensures ∙ c.in-Lower.is) (λ z. cc)
