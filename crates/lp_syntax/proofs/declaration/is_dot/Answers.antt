use Rattle.std.proofs.Common.{sym, ◌∙◌}
use Rattle.lp_syntax.specs.declared.class.Class.TheVariants as class
use Rattle.lp_syntax.proofs.LineCode.{class_within}
use Rattle.lp_syntax.proofs.declaration.is_dot.Goals as goal

pub returns-in-Dot-clause-within : goal.returns-in-Dot-clause-within
returns-in-Dot-clause-within c = λ e. class_within c.args.input.now.source.now c.args.input.now.tokens.now c.args.at class.Dot (sym c.class.ensures ∙ c.in-Dot.is) (λ z. cc)
