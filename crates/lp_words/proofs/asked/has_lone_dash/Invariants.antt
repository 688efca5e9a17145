use Rattle.std.proofs.Common.{◌≡◌, map, string_bytes, drop}
use Rattle.lp_words.specs.Words.{has_lone_dash}
use Rattle.lp_words.proofs.asked.has_lone_dash.Given as goal

abbrev pub invariant-loop-word : goal.invariant-loop-word
invariant-loop-word l = has_lone_dash (map string_bytes (drop l.word-index l.fn.words)) ≡ has_lone_dash (map string_bytes l.fn.words)
