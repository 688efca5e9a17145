use Rattle.std.proofs.Common.{◌≡◌, ◌-◌, ◌≤◌, drop, length}
use Rattle.lp_lexer.specs.Front.{text_end, further}
use Rattle.lp_lexer.proofs.front.text_end.Given as goal

abbrev pub invariant-over : goal.invariant-over
invariant-over l = record { sum : further l.n (text_end (drop l.n l.bytes)) ≡ text_end l.bytes; within : l.n ≤ length l.bytes }

abbrev pub decreases-over : goal.decreases-over
decreases-over l = length l.bytes - l.n
