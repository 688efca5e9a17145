use Rattle.std.proofs.Common.{sym, ◌∙◌}
use Rattle.lp_syntax.specs.declared.class.Class.TheVariants as class
use Rattle.lp_syntax.proofs.LineCode.{class_within}
use Rattle.lp_syntax.proofs.parts.is_comma.Goals as goal

pub returns-in-Comma-clause-within : goal.returns-in-Comma-clause-within
returns-in-Comma-clause-within c = λ e. class_within c.args.input.now.source.now c.args.input.now.tokens.now c.args.at class.Comma (sym c.class.ensures ∙ c.in-Comma.is) (λ z. cc)
