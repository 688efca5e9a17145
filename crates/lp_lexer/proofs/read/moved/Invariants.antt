use Rattle.std.proofs.Common.{◌≡◌, ◌≤◌, ◌+◌, drop}
use Rattle.lp_lexer.specs.Lexis.{moved}
use Rattle.lp_lexer.proofs.read.moved.Given as goal

abbrev pub invariant-loop-b : goal.invariant-loop-b
invariant-loop-b l = record { place : moved l.at (drop l.b-index l.bytes) ≡ moved l.fn.place l.bytes; line : l.at.line ≤ l.fn.place.line + l.b-index; column : l.at.column ≤ l.fn.place.column + l.b-index }
