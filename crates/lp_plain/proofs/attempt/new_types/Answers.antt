use Rattle.std.proofs.Common.{refl, ap, arith}
use Rattle.lp_plain.specs.Attempted.{with_types_to}
use Rattle.lp_plain.proofs.attempt.new_types.Goals as goal

pub returns-clause-new : goal.returns-clause-new
returns-clause-new c = (c.rule-found.result.now, c.rule-found.ensures, refl, refl, ap (with_types_to c.args.machine.now) c.in-Some.ensures.1, omega (arith, c.in-Some.ensures))
