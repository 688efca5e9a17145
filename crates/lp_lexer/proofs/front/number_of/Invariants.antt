use Rattle.std.proofs.Common.{◌≡◌, ◌<◌, ◌^◌, drop}
use Rattle.lp_lexer.specs.Front.{decimal_from}
use Rattle.lp_lexer.proofs.front.number_of.Given as goal

abbrev pub invariant-loop-d : goal.invariant-loop-d
invariant-loop-d l = record { sum : decimal_from l.value (drop l.d-index l.digits) ≡ decimal_from 0 l.digits; small : l.value < 2 ^ 63 }
