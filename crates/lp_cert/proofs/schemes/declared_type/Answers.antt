use Rattle.lp_cert.proofs.Missing.{count_differs}
use Rattle.lp_model.specs.Readings.{scheme_of}
use Rattle.std.proofs.Common.{arith, sym, ◌∙◌}
use Rattle.lp_cert.proofs.schemes.declared_type.Goals as goal

pub returns-then-types-from-clause-none : goal.returns-then-types-from-clause-none
returns-then-types-from-clause-none c = λ e l b. count_differs b c.args.types.now (scheme_of b c.args.declared.now) (λ q. c.if-types-from.true (q ∙ sym c.from.ensures))

pub returns-then-declared-type_count-clause-none : goal.returns-then-declared-type_count-clause-none
returns-then-declared-type_count-clause-none c = λ e l b. absurd (omega (arith, l, c.if-declared-type_count.true, c.type_count.ensures.count))
