use Rattle.std.proofs.Common.{◌≡◌, take}
use Rattle.std.specs.List.{flat_map}
use Rattle.lp_bytes.specs.Numbers.{spelled_four}
use Rattle.lp_bytes.specs.Writing.{text_of, more}
use Rattle.lp_object.proofs.written.write_numbers.Given as goal

abbrev pub invariant-loop-number : goal.invariant-loop-number
invariant-loop-number l = text_of l.writer ≡ more (text_of l.fn.writer) (flat_map (λ n. spelled_four n) (take l.number-index l.numbers))
