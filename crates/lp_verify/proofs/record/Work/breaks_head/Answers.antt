use Rattle.std.proofs.Common.{◌∙◌, ap}
use Rattle.std.specs.Prelude.{◌&&◌, is_some}
use Rattle.lp_verify.proofs.record.Work.breaks_head.Goals as goal

pub returns : goal.returns
returns c = λ l h s k order. c.both.ensures ∙ (λ j. (c.is_there.ensures ∙ ap is_some k.of_head.head.predicate) j && c.breaks_its_head.result) ∙ c.breaks_its_head.ensures l h s k order
