use Rattle.std.proofs.Common.{◌≤◌, ◌-◌, length}
use Rattle.lp_syntax.specs.declared.class.Keyword.TheVariants.{Sig}
use Rattle.lp_syntax.specs.Tokens.{lexemes, spot_at}
use Rattle.lp_syntax.specs.Signatures.{IsHeader, LinesRead}
use Rattle.lp_syntax.proofs.whole.read_signature.Given as goal

abbrev pub invariant-over : goal.invariant-over
invariant-over l = record { within : l.at ≤ length l.tokens; header : IsHeader (lexemes l.source l.tokens) Sig; read : LinesRead (spot_at l.file l.source l.tokens) (lexemes l.source l.tokens) l.at l.lines.items }

abbrev pub decreases-over : goal.decreases-over
decreases-over l = length l.tokens - l.at
