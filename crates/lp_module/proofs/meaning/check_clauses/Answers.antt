use Rattle.std.proofs.Common.{◌≡◌}
use Rattle.std.specs.Prelude.{◌⊎◌}
use Rattle.lp_term.proofs.Moves.{passed_up}
use Rattle.lp_module.specs.Schemes.{declared_schemes}
use Rattle.lp_module.specs.declared.fault.ModuleFault.TheVariants as fault
use Rattle.lp_module.specs.inner.Typed.{IsFirstUnformed}
use Rattle.lp_module.proofs.Typed.{none_given}
use Rattle.lp_module.proofs.meaning.check_clauses.Goals as goal

pub returns-clause-formed : goal.returns-clause-formed
returns-clause-formed c = c.in_ok-check_each.ensures.formed (declared_schemes c.args.signature.now) c.in_ok-heads.ensures

pub returns-in_err-check_each : goal.returns-in_err-check_each
returns-in_err-check_each c = record {
  formed = none_given c.from_residual-in_err-check_each.result _ _ c.from_residual-in_err-check_each.ensures.1;
  refused = passed_up c.from_residual-in_err-check_each.result c.in_err-check_each.field-0.0 (λ e. (e ≡ fault.Memory) ⊎ IsFirstUnformed (declared_schemes c.args.signature.now) c.args.bank.now c.args.sentences.now e) c.from_residual-in_err-check_each.ensures.1
      (c.in_err-check_each.ensures.refused (declared_schemes c.args.signature.now) c.in_ok-heads.ensures);
}
