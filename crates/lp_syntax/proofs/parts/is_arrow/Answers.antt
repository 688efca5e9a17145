use Rattle.std.proofs.Common.{sym, ◌∙◌}
use Rattle.lp_syntax.specs.declared.class.Class.TheVariants as class
use Rattle.lp_syntax.proofs.LineCode.{class_within}
use Rattle.lp_syntax.proofs.parts.is_arrow.Goals as goal

pub returns-in-Arrow-clause-within : goal.returns-in-Arrow-clause-within
returns-in-Arrow-clause-within c = λ e. class_within c.args.input.now.source.now c.args.input.now.tokens.now c.args.at class.Arrow (sym c.class.ensures ∙ c.in-Arrow.is) (λ z. cc)
