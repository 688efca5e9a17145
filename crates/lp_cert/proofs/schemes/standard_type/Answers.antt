use Rattle.std.proofs.Common.{◌∙◌, ap, sym}
use Rattle.lp_calculus.specs.Typing.{scheme_type}
use Rattle.lp_standard.specs.Schemes.{scheme, shape_scheme}
use Rattle.lp_cert.specs.Same.{types_in}
use Rattle.lp_cert.proofs.Missing.{none_type, count_differs}
use Rattle.lp_cert.proofs.schemes.standard_type.Goals as goal

pub returns-in_default-clause-none : goal.returns-in_default-clause-none
returns-in_default-clause-none c = λ e b. none_type b c.args.types.now (scheme c.args.constant) (sym c.in_default.ensures)

pub returns-then-types-from-clause-none : goal.returns-then-types-from-clause-none
returns-then-types-from-clause-none c = λ e b. ap (scheme_type (types_in b c.args.types.now)) (sym c.in-Some.ensures) ∙ count_differs b c.args.types.now (shape_scheme c.in-Some.shape) (λ q. c.if-types-from.true (q ∙ sym (c.from.ensures ∙ c.type_vars.ensures)))
