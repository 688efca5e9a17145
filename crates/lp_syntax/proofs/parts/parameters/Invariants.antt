use Rattle.std.proofs.Common.{◌≤◌, ◌-◌, ◌+◌, length}
use Rattle.lp_syntax.specs.Tokens.{lexemes, spot_at}
use Rattle.lp_syntax.specs.Declarations.{Parameters, Spotted}
use Rattle.lp_syntax.proofs.parts.parameters.Given as goal

abbrev pub invariant-over : goal.invariant-over
invariant-over l = record { within : l.at ≤ length l.input.tokens.now; from : l.from ≤ l.at; list : Spotted (spot_at l.input.file l.input.source.now l.input.tokens.now) (Parameters (lexemes l.input.source.now l.input.tokens.now) (l.from + 1 + 1) l.at) l.parameters.items }

abbrev pub decreases-over : goal.decreases-over
decreases-over l = length l.input.tokens.now - l.at
