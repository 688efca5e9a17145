use Rattle.std.proofs.Common.{◌≡◌, ◌++◌, drop}
use Rattle.lp_module.specs.Words.{accumulate_words}
use Rattle.lp_module.proofs.words.accumulated.Given as goal

abbrev pub invariant-loop-line : goal.invariant-loop-line
invariant-loop-line l = l.all.items ++ accumulate_words (drop l.line-index l.text.lines.items) ≡ accumulate_words l.text.lines.items
