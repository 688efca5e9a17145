use Rattle.std.proofs.Common.{◌≡◌, arith, w64, to_z, of_z, refl, subst, sym, Err}
use Rattle.std.proofs.lemmas.Int.{to_z-of_z}
use Rattle.lp_model.specs.declared.ending.Ending.TheVariants as ending
use Rattle.lp_model.specs.declared.ending.Fault.TheVariants.{NotClosed}
use Rattle.lp_plain.specs.declared.arithmetic.Outcome.TheVariants as code
use Rattle.lp_plain.specs.Assigned.{IsNumberOr}
use Rattle.lp_plain.proofs.ValuesGiven.{number_told}
use Rattle.lp_plain.proofs.atomic.number_in.Goals as goal

pub returns-in-Number : goal.returns-in-Number
returns-in-Number c = let e : to_z w64 (of_z w64 c.in-Number.number) ≡ c.in-Number.number = grind (arith, to_z-of_z) in number_told c.args.value c.in-Number.number _ e c.in-Number.is

pub returns-in-Text : goal.returns-in-Text
returns-in-Text c = subst (λ v. IsNumberOr (code.Is v) (Err (ending.Arithmetic NotClosed))) (sym c.in-Text.is) refl
