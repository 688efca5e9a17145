use Rattle.std.proofs.Common.{◌∙◌, sym}
use Rattle.lp_cert.proofs.Evaluating.{by_joining, no_bytes}
use Rattle.lp_cert.specs.inner.Evaluated.{text_in}
use Rattle.lp_cert.proofs.value.on_texts.Goals as goal

pub returns-then-operation-concatenate-clause-gives : goal.returns-then-operation-concatenate-clause-gives
returns-then-operation-concatenate-clause-gives c = λ end g. no_bytes c.args.operation (text_in end c.args.left) (text_in end c.args.right) (λ e. c.if-operation-concatenate.true (e ∙ sym c.number-concatenate.ensures.number))

pub returns-clause-gives : goal.returns-clause-gives
returns-clause-gives c = λ end g. by_joining end c.args.operation c.args.left c.args.right c.in_ok-joined.joined (c.if-operation-concatenate.false ∙ c.number-concatenate.ensures.number) (c.in_ok-joined.ensures.joined end g)
