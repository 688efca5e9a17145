use Rattle.std.proofs.Common.{◌≡◌, ◌+◌, ◌-◌, ◌≤◌, ◌<◌, drop, length}
use Rattle.lp_lexer.specs.Front.{comment_len, later}
use Rattle.lp_lexer.proofs.front.comment_len.Given as goal

abbrev pub invariant-over : goal.invariant-over
invariant-over l = record { sum : later l.n (comment_len l.depth (drop l.n l.bytes)) ≡ comment_len 1 l.bytes; within : l.n ≤ length l.bytes; low : 0 < l.depth; high : l.depth ≤ l.n + 1 }

abbrev pub decreases-over : goal.decreases-over
decreases-over l = length l.bytes - l.n
