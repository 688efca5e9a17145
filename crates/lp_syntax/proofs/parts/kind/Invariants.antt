use Rattle.std.proofs.Common.{◌≤◌, ◌-◌, length}
use Rattle.lp_syntax.specs.Tokens.{lexemes}
use Rattle.lp_syntax.specs.Declarations.{KindFront}
use Rattle.lp_syntax.proofs.parts.kind.Given as goal

abbrev pub invariant-over : goal.invariant-over
invariant-over l = record { within : l.at ≤ length l.input.tokens.now; from : l.from ≤ l.at; front : KindFront (lexemes l.input.source.now l.input.tokens.now) l.from l.at l.arguments }

abbrev pub decreases-over : goal.decreases-over
decreases-over l = length l.input.tokens.now - l.at
