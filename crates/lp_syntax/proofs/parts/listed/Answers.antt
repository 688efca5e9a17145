use Rattle.std.proofs.Common.{sym, ap, ◌∙◌}
use Rattle.lp_syntax.specs.Declarations.{is_listed}
use Rattle.lp_syntax.proofs.LineCode.{listed_within}
use Rattle.lp_syntax.proofs.parts.listed.Goals as goal

pub returns-clause-within : goal.returns-clause-within
returns-clause-within c = λ e. listed_within c.args.input.now.source.now c.args.input.now.tokens.now c.args.at c.args.words (ap (is_listed c.args.words) (sym c.class.ensures) ∙ sym c.is_listed.ensures ∙ e)
