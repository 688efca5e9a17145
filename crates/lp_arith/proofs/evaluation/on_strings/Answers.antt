use Rattle.lp_standard.specs.Constants.{number}
use Rattle.lp_model.specs.Values.{Bytes, binary}
use Rattle.lp_arith.proofs.Numbers.{other_strings}
use Rattle.lp_arith.proofs.Operations.{joined_gives, memory_faults, refused_passed}
use Rattle.lp_arith.proofs.evaluation.on_strings.Goals as goal

pub returns-in_ok-span-in-Concatenate-clause-gives : goal.returns-in_ok-span-in-Concatenate-clause-gives
returns-in_ok-span-in-Concatenate-clause-gives c = λ s t p q.
    joined_gives c.joined.new.store c.args.operation c.in_ok-span-in-Concatenate.span s t c.in-Concatenate.is (c.in_ok-span-in-Concatenate.ensures.reads s t p q)

pub returns-in_err-span-in-Concatenate-clause-gives : goal.returns-in_err-span-in-Concatenate-clause-gives
returns-in_err-span-in-Concatenate-clause-gives c = λ s t p q.
    (let o = binary (number c.args.operation) (Bytes s) (Bytes t) in
    refused_passed c.joined.new.store c.from_residual.result c.in_err-span-in-Concatenate.field-0.0 o c.from_residual.ensures.1 (memory_faults c.in_err-span-in-Concatenate.field-0.0 o c.in_err-span-in-Concatenate.ensures.refused))

pub returns-in_default-clause-gives : goal.returns-in_default-clause-gives
returns-in_default-clause-gives c = λ s t p q. other_strings c.args.operation s t c.in_default.not-Concatenate
