use Rattle.std.proofs.Common.{◌≡◌, arith, w64, to_z, of_z}
use Rattle.std.proofs.lemmas.Int.{to_z-of_z}
use Rattle.lp_standard.specs.Constants.{number}
use Rattle.lp_term.proofs.Trees.{extends_same}
use Rattle.lp_plain.proofs.ValuesGiven.{number_first, text_first}
use Rattle.lp_plain.proofs.arithmetic.on_two.Goals as goal

pub returns-in-Number-clause-kept : goal.returns-in-Number-clause-kept
returns-in-Number-clause-kept c = extends_same c.args.bank.now

pub returns-in-Number-clause-gives : goal.returns-in-Number-clause-gives
returns-in-Number-clause-gives c = λ x y i j.
    let b = c.args.bank.now in
    let e : to_z w64 (of_z w64 c.in-Number.one) ≡ c.in-Number.one = grind (arith, to_z-of_z) in
    number_first b b (number c.args.operation) c.with_number.result c.in-Number.one _ e c.args.left c.in-Number.is x y i (c.with_number.ensures b y j)

pub returns-in_ok-outcome-in-Text-clause-gives : goal.returns-in_ok-outcome-in-Text-clause-gives
returns-in_ok-outcome-in-Text-clause-gives c = λ x y i j.
    text_first c.args.bank.now c.with_text.new.bank (number c.args.operation) c.in_ok-outcome-in-Text.outcome c.in-Text.one c.args.left c.in-Text.is x y i (λ s p. c.in_ok-outcome-in-Text.ensures.gives s y p j)
