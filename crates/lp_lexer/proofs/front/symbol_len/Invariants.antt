use Rattle.std.proofs.Common.{◌≡◌, ◌+◌, ◌-◌, ◌≤◌, drop, length}
use Rattle.lp_lexer.specs.Front.{symbol_len}
use Rattle.lp_lexer.proofs.front.symbol_len.Given as goal

abbrev pub invariant-over : goal.invariant-over
invariant-over l = record { sum : l.n + symbol_len (drop l.n l.bytes) ≡ symbol_len l.bytes; within : l.n ≤ length l.bytes }

abbrev pub decreases-over : goal.decreases-over
decreases-over l = length l.bytes - l.n
