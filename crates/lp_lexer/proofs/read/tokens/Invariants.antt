use Rattle.std.proofs.Common.{◌≡◌, ◌≤◌, ◌+◌, ◌-◌, length}
use Rattle.lp_lexer.specs.Lexis.{place_at}
use Rattle.lp_lexer.proofs.Texts.{Before}
use Rattle.lp_lexer.proofs.read.tokens.Given as goal

abbrev pub invariant-over : goal.invariant-over
invariant-over l = record {
  done : Before l.text l.at l.out.items;
  place : l.place ≡ place_at l.text l.at;
  within : l.at ≤ length l.text;
  line : l.place.line ≤ 1 + l.at;
  column : l.place.column ≤ 1 + l.at;
}

abbrev pub decreases-over : goal.decreases-over
decreases-over l = length l.text - l.at
