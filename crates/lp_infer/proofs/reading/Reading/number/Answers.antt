use Rattle.std.proofs.Common.{◌∙◌, sym, ap}
use Rattle.lp_infer.specs.Meeting.{place}
use Rattle.lp_infer.proofs.Memos.{place_inserted}
use Rattle.lp_infer.proofs.reading.Reading.number.Goals as goal

pub returns-clause-number : goal.returns-clause-number
returns-clause-number c = c.in_ok-number.ensures.index ∙ place_inserted c.args.self.now.numbers.keys c.args.variable ∙ sym (ap (λ l. place l c.args.variable) c.in_ok-number.ensures.keys)
