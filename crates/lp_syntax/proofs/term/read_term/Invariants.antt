use Rattle.std.proofs.Common.{◌≡◌, ◌≤◌, ◌-◌, length}
use Rattle.lp_fixity.specs.Table.{entry_of}
use Rattle.lp_syntax.specs.Tokens.{lexemes}
use Rattle.lp_syntax.specs.TermViews.{IsReading}
use Rattle.lp_syntax.proofs.term.read_term.Given as goal

abbrev pub invariant-over : goal.invariant-over
invariant-over l = record {
  within : l.at ≤ length l.input.tokens.now;
  further : l.from ≤ l.at;
  from : l.reader.from ≡ l.from;
  reading : IsReading (entry_of l.table) (lexemes l.input.source.now l.input.tokens.now) l.reader l.doing l.at;
}

abbrev pub decreases-over : goal.decreases-over
decreases-over l = length l.input.tokens.now - l.at
