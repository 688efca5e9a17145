use Rattle.std.proofs.Common.{◌≡◌, arith, w64, to_z, of_z}
use Rattle.std.proofs.lemmas.Int.{to_z-of_z}
use Rattle.lp_plain.proofs.ValuesGiven.{fault_given, number_given}
use Rattle.lp_plain.proofs.arithmetic.outcome_of.Goals as goal

pub returns-in-Ok : goal.returns-in-Ok
returns-in-Ok c = λ b o h. let e : to_z w64 (of_z w64 c.in-Ok.value) ≡ c.in-Ok.value = grind (arith, to_z-of_z) in number_given c.args.given c.in-Ok.value _ c.in-Ok.is e b o h

pub returns-in-Err : goal.returns-in-Err
returns-in-Err c = λ b o h. fault_given c.args.given c.in-Err.fault c.in-Err.is b o h
