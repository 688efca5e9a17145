use Rattle.std.proofs.Common.{◌≡◌, arith, w64, to_z, of_z}
use Rattle.std.proofs.lemmas.Int.{to_z-of_z}
use Rattle.lp_standard.specs.Constants.{number}
use Rattle.lp_plain.proofs.ValuesGiven.{number_text, two_numbers}
use Rattle.lp_plain.proofs.arithmetic.with_number.Goals as goal

pub returns-in-Number : goal.returns-in-Number
returns-in-Number c = λ b y i.
    let e : to_z w64 (of_z w64 c.in-Number.other) ≡ c.in-Number.other = grind (arith, to_z-of_z) in
    two_numbers b (number c.args.operation) c.outcome_of.result c.on_integers.result c.args.left c.in-Number.other _ _ (to_z-of_z w64 c.args.left c.ranges.left) e c.outcome_of.ensures c.on_integers.ensures c.args.right c.in-Number.is y i

pub returns-in-Text : goal.returns-in-Text
returns-in-Text c = λ b y i. number_text b (number c.args.operation) c.args.left _ c.args.right c.in-Text.is y i
