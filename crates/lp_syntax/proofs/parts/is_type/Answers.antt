use Rattle.std.proofs.Common.{sym, ◌∙◌}
use Rattle.lp_syntax.specs.declared.class.Class.TheVariants as class
use Rattle.lp_syntax.proofs.LineCode.{class_within}
use Rattle.lp_syntax.proofs.parts.is_type.Goals as goal

pub returns-in-Keyword-Type-clause-within : goal.returns-in-Keyword-Type-clause-within
returns-in-Keyword-Type-clause-within c = λ e. class_within c.args.input.now.source.now c.args.input.now.tokens.now c.args.at (class.Keyword c.in-Keyword-Type.field-0) (sym c.class.ensures ∙ c.in-Keyword-Type.is) (λ z. cc)
