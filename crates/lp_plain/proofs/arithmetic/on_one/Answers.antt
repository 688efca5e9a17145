use Rattle.std.proofs.Common.{◌≡◌, arith, w64, to_z, of_z}
use Rattle.std.proofs.lemmas.Int.{to_z-of_z}
use Rattle.lp_standard.specs.Constants.{number}
use Rattle.lp_plain.proofs.ValuesGiven.{one_number, one_text}
use Rattle.lp_plain.proofs.arithmetic.on_one.Goals as goal

pub returns-in-Number : goal.returns-in-Number
returns-in-Number c = λ x i.
    let e : to_z w64 (of_z w64 c.in-Number.a) ≡ c.in-Number.a = grind (arith, to_z-of_z) in
    one_number c.args.bank.now (number c.args.operation) c.outcome_of.result c.on_integer.result c.in-Number.a _ e c.outcome_of.ensures c.on_integer.ensures c.args.value c.in-Number.is x i

pub returns-in-Text : goal.returns-in-Text
returns-in-Text c = λ x i. one_text c.args.bank.now (number c.args.operation) c.on_text.result c.in-Text.part c.args.value c.in-Text.is c.on_text.ensures x i
