use Rattle.lp_module.specs.Sentences.{said}
use Rattle.lp_module.proofs.NoLoose.{closed_clauses}
use Rattle.lp_module.proofs.laws.clauses_are_closed.Goals as goal

pub returns : goal.returns
returns c = λ source text expected own used m h. closed_clauses m.signature source m.bank (said text.lines.items) m.clauses.items h.sentences
