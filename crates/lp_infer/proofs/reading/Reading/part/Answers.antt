use Rattle.std.proofs.Common.{◌∙◌, sym}
use Rattle.lp_infer.proofs.reading.Reading.part.Goals as goal

pub returns : goal.returns
returns c = λ A b M. M c.args.id.0 c.in-Some.made (sym c.find.ensures ∙ c.in-Some.is)

pub unreachable-requires : goal.unreachable-requires
unreachable-requires c = c.requires (sym c.find.ensures ∙ c.in_default.is)
