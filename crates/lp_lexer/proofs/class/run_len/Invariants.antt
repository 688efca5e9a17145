use Rattle.std.proofs.Common.{◌≡◌, ◌+◌, ◌-◌, ◌≤◌, drop, take, length, IsTrue, All}
use Rattle.lp_lexer.specs.Bytes.{run, is_in}
use Rattle.lp_lexer.proofs.class.run_len.Given as goal

abbrev pub invariant-loop-n : goal.invariant-loop-n
invariant-loop-n l = record { sum : l.n + run l.class (drop l.n l.bytes) ≡ run l.class l.bytes; within : l.n ≤ length l.bytes; each : All (λ b. IsTrue (is_in l.class b)) (take l.n l.bytes) }

abbrev pub decreases-loop-n : goal.decreases-loop-n
decreases-loop-n l = length l.bytes - l.n
