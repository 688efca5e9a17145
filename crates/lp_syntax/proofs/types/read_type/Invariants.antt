use Rattle.std.proofs.Common.{◌≡◌, ◌≤◌, ◌-◌, length, []}
use Rattle.lp_syntax.specs.Tokens.{lexemes, spot_at, open_brackets}
use Rattle.lp_syntax.specs.TypeHeld.{type_text, IsDue}
use Rattle.lp_syntax.specs.TypeMachine.{Runs, Wants, ts}
use Rattle.lp_syntax.specs.TypeViews.{state_of}
use Rattle.lp_syntax.proofs.types.read_type.Given as goal

abbrev pub invariant-over : goal.invariant-over
invariant-over l = record {
  within : l.at ≤ length l.input.tokens.now;
  from : l.from ≤ l.at;
  runs : Runs (lexemes l.input.source.now l.input.tokens.now) (ts [] Wants) l.from (state_of l.reader.waiting.items l.due) l.at;
  open_here : l.open.items ≡ open_brackets (lexemes l.input.source.now l.input.tokens.now) l.from l.at;
  held : IsDue (type_text (spot_at l.input.file l.input.source.now l.input.tokens.now) (lexemes l.input.source.now l.input.tokens.now) l.from) l.reader.nodes.items l.reader.waiting.items l.at l.due;
}

abbrev pub decreases-over : goal.decreases-over
decreases-over l = length l.input.tokens.now - l.at
