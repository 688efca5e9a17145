use Rattle.std.proofs.Common.{◌∙◌, refl, sym}
use Rattle.std.specs.Prelude.{pos}
use Rattle.std.specs.Int.{w64}
use Rattle.std.proofs.lemmas.Int.{to_z-of_z}
use Rattle.lp_cert.proofs.Evaluating.{by_negation, no_negation}
use Rattle.lp_cert.proofs.value.on_number.Goals as goal

pub returns-then-operation-negate : goal.returns-then-operation-negate
returns-then-operation-negate c = λ end. no_negation c.args.operation c.args.operand (λ e. c.if-operation-negate.true (e ∙ sym c.number-negate.ensures.number))

pub returns : goal.returns
returns c = λ end. by_negation end c.args.operation c.args.operand (pos 0) _ (pos 0) (to_z-of_z w64 c.args.operand c.ranges.operand) refl c.checked_neg.result c.state_of.result c.state_of.ensures (c.if-operation-negate.false ∙ c.number-negate.ensures.number) c.checked_neg.ensures
