use Rattle.lp_pattern_laws.proofs.PatternRuns.{no_pairs}
use Rattle.lp_pattern_laws.proofs.search.pattern_answers_have_no_pairs.Goals as goal

pub returns : goal.returns
returns c = λ d std l F P s x texts q gs t e text n j m steps answers. no_pairs d std l F P s x q gs t e texts text n j m steps answers
