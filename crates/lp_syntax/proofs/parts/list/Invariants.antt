use Rattle.std.proofs.Common.{◌≤◌, ◌-◌, length}
use Rattle.lp_syntax.specs.Tokens.{lexemes, spot_at}
use Rattle.lp_syntax.specs.Declarations.{WithCommas, Spotted}
use Rattle.lp_syntax.proofs.parts.list.Given as goal

abbrev pub invariant-over : goal.invariant-over
invariant-over l = record { within : l.at ≤ length l.input.tokens.now; from : l.from ≤ l.at; listed : Spotted (spot_at l.input.file l.input.source.now l.input.tokens.now) (WithCommas (lexemes l.input.source.now l.input.tokens.now) l.words l.from l.at) l.spots.items }

abbrev pub decreases-over : goal.decreases-over
decreases-over l = length l.input.tokens.now - l.at
