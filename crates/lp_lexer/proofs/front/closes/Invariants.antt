use Rattle.std.proofs.Common.{◌≡◌, ◌-◌, ◌≤◌, drop, length}
use Rattle.lp_lexer.specs.Front.{closes}
use Rattle.lp_lexer.proofs.front.closes.Given as goal

abbrev pub invariant-over : goal.invariant-over
invariant-over l = record { same : closes (drop l.n l.bytes) ≡ closes l.bytes; within : l.n ≤ length l.bytes }

abbrev pub decreases-over : goal.decreases-over
decreases-over l = length l.bytes - l.n
