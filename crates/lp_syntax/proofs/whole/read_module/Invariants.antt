use Rattle.std.proofs.Common.{◌≤◌, ◌-◌, length}
use Rattle.lp_fixity.specs.Table.{Extends, entry_of}
use Rattle.lp_syntax.specs.declared.class.Keyword.TheVariants.{Module}
use Rattle.lp_syntax.specs.Tokens.{lexemes, spot_at}
use Rattle.lp_syntax.specs.Signatures.{IsHeader}
use Rattle.lp_syntax.specs.Modules.{SentencesRead}
use Rattle.lp_syntax.proofs.whole.read_module.Given as goal

abbrev pub invariant-over : goal.invariant-over
invariant-over l = record {
  within : l.at ≤ length l.tokens;
  extends : Extends l.fn.table l.table;
  header : IsHeader (lexemes l.source l.tokens) Module;
  read : SentencesRead (spot_at l.file l.source l.tokens) (lexemes l.source l.tokens) (entry_of l.fn.table) (entry_of l.table) l.at l.lines.items;
}

abbrev pub decreases-over : goal.decreases-over
decreases-over l = length l.tokens - l.at
