use Rattle.std.proofs.Common.{arith}
use Rattle.lp_lexer.proofs.Steps.{number_passed, digits_low}
use Rattle.lp_lexer.proofs.front.number_of.Goals as goal

pub returns-then-value-gt922337203685477580 : goal.returns-then-value-gt922337203685477580
returns-then-value-gt922337203685477580 c = number_passed c.args.digits.now c.loop-d.d-index c.loop-d.value _ (omega arith) c.loop-d.invariant.sum (omega arith)

pub returns-then-value-gt9223372036854775807 : goal.returns-then-value-gt9223372036854775807
returns-then-value-gt9223372036854775807 c = number_passed c.args.digits.now c.loop-d.d-index c.loop-d.value _ (omega arith) c.loop-d.invariant.sum (omega arith)

pub overflow_sub-value : goal.overflow_sub-value
overflow_sub-value c = digits_low c.args.digits.now c.loop-d.d-index c.requires (omega arith)
