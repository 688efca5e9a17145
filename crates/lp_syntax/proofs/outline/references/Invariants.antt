use Rattle.std.proofs.Common.{◌≤◌, ◌-◌, length}
use Rattle.lp_syntax.specs.Tokens.{lexemes, spot_at}
use Rattle.lp_syntax.specs.References.{AreReferences}
use Rattle.lp_syntax.proofs.outline.references.Given as goal

abbrev pub invariant-over : goal.invariant-over
invariant-over l = record { within : l.at ≤ length l.tokens; found : AreReferences (spot_at l.file l.source l.tokens) (lexemes l.source l.tokens) l.at l.found }

abbrev pub decreases-over : goal.decreases-over
decreases-over l = length l.tokens - l.at
