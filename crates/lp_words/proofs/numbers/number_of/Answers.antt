use Rattle.std.proofs.Common.{sym, ◌∙◌, arith}
use Rattle.lp_words.proofs.Reading.{number_read}
use Rattle.lp_words.proofs.numbers.number_of.Goals as goal

pub returns-then-are_digits : goal.returns-then-are_digits
returns-then-are_digits c = number_read c.args.text.now c.parse.result c.ok.result c.parse.ensures.value.0 c.ok.ensures.value (omega arith) (omega arith) (rw c.as_bytes.ensures.value at (sym c.are_digits.ensures ∙ c.if-are_digits.true))
