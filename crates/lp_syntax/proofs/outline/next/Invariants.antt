use Rattle.std.proofs.Common.{◌≡◌, ◌<◌, ◌≤◌, ◌-◌, ◌⊎◌, ℕ, length}
use Rattle.lp_syntax.specs.Tokens.{lexemes}
use Rattle.lp_syntax.specs.References.{NextSentence}
use Rattle.lp_syntax.proofs.outline.next.Given as goal

abbrev pub invariant-over : goal.invariant-over
invariant-over l = record {
  within : l.at ≤ length l.input.tokens.now;
  from : l.from ≤ l.at;
  first : (l.at ≡ l.from) ⊎ (l.from < l.at);
  next : (k : ℕ) → NextSentence (lexemes l.input.source.now l.input.tokens.now) l.at k → NextSentence (lexemes l.input.source.now l.input.tokens.now) l.from k;
}

abbrev pub decreases-over : goal.decreases-over
decreases-over l = length l.input.tokens.now - l.at
