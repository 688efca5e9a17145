use Rattle.std.proofs.Common.{◌≡◌, arith, w64, to_z, of_z}
use Rattle.std.proofs.Math.Path.{transport}
use Rattle.std.proofs.lemmas.Int.{to_z-of_z}
use Rattle.lp_model.specs.Values.{Number, binary}
use Rattle.lp_cert.specs.inner.Evaluated.{Gives}
use Rattle.lp_cert.proofs.Evaluating.{number_is, number_not_text}
use Rattle.lp_cert.proofs.value.on_number_with.Goals as goal

pub returns-in-Number : goal.returns-in-Number
returns-in-Number c = λ end.
    let l : to_z w64 (of_z w64 c.args.left) ≡ c.args.left = grind (arith, to_z-of_z) in
    let o : to_z w64 (of_z w64 c.in-Number.other) ≡ c.in-Number.other = grind (arith, to_z-of_z) in
    transport (λ j. Gives end c.on_numbers.result (binary c.args.operation (Number (l j)) (number_is end c.args.right _ c.in-Number.other o c.in-Number.is j))) (c.on_numbers.ensures end)

pub returns-in-Text : goal.returns-in-Text
returns-in-Text c = λ end. number_not_text end c.args.operation c.args.left c.args.right c.in-Text.field-0 c.in-Text.is
