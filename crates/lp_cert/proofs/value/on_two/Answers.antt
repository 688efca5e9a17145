use Rattle.std.proofs.Common.{◌≡◌, arith, w64, to_z, of_z}
use Rattle.std.proofs.Math.Path.{transport}
use Rattle.std.proofs.lemmas.Int.{to_z-of_z}
use Rattle.lp_model.specs.Values.{binary}
use Rattle.lp_cert.specs.inner.Evaluated.{Gives, value_in}
use Rattle.lp_cert.proofs.Evaluating.{number_is, text_left_gives}
use Rattle.lp_cert.proofs.value.on_two.Goals as goal

pub returns-in-Number-clause-gives : goal.returns-in-Number-clause-gives
returns-in-Number-clause-gives c = λ end g.
    let o : to_z w64 (of_z w64 c.in-Number.one) ≡ c.in-Number.one = grind (arith, to_z-of_z) in
    transport (λ j. Gives end c.on_number_with.result (binary c.args.operation (number_is end c.args.left _ c.in-Number.one o c.in-Number.is j) (value_in end c.args.right))) (c.on_number_with.ensures end)

pub returns-in-Text-clause-gives : goal.returns-in-Text-clause-gives
returns-in-Text-clause-gives c = text_left_gives c.on_text_with.new.texts.bytes.items c.on_text_with.result c.args.operation c.args.left c.args.right c.in-Text.one c.in-Text.is c.on_text_with.ensures.gives
