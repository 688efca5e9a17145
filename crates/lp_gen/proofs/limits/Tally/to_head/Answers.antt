use Rattle.std.proofs.Common.{◌∙◌, sym, arith}
use Rattle.lp_gen.proofs.LimitsLeft.{head_wide, more_arguments, same_head, strings_apart, nesting_apart, records_apart}
use Rattle.lp_gen.proofs.limits.Tally.to_head.Goals as goal

pub returns-then-front-clause-cause : goal.returns-then-front-clause-cause
returns-then-front-clause-cause c =
    head_wide c.args.self.now.look c.args.self.now.room c.args.count c.args.number c.in-Arguments.is c.args.self.now.none (omega (arith, c.if-front.true, c.saturating_add-front.ensures))

pub returns-else-front-clause-number : goal.returns-else-front-clause-number
returns-else-front-clause-number c =
    more_arguments c.args.self.now.look c.args.count c.args.number c.saturating_add-front.result c.in-Arguments.is (omega (arith, c.if-front.false, c.saturating_add-front.ensures))

pub returns-in-Strings-clause-number : goal.returns-in-Strings-clause-number
returns-in-Strings-clause-number c = same_head c.args.self.now.look c.args.count c.args.number (λ e. strings_apart (sym c.in-Strings.is ∙ e))

pub returns-in-Nesting-clause-number : goal.returns-in-Nesting-clause-number
returns-in-Nesting-clause-number c = same_head c.args.self.now.look c.args.count c.args.number (λ e. nesting_apart (sym c.in-Nesting.is ∙ e))

pub returns-in-Records-clause-number : goal.returns-in-Records-clause-number
returns-in-Records-clause-number c = same_head c.args.self.now.look c.args.count c.args.number (λ e. records_apart (sym c.in-Records.is ∙ e))
