use Rattle.lp_infer.proofs.Memos.{nothing_kept}
use Rattle.lp_infer.proofs.reading.Reading.new.Goals as goal

pub returns-clause-memo : goal.returns-clause-memo
returns-clause-memo c = λ A b i j f. absurd (nothing_kept c.new.result i j c.new.ensures.empty f)
