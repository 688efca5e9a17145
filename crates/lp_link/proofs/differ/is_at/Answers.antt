use Rattle.std.proofs.Common.{◌∙◌, sym}
use Rattle.lp_link.proofs.NumberPlaces.{no_place, one_place}
use Rattle.lp_link.proofs.differ.is_at.Goals as goal

pub returns-in_default : goal.returns-in_default
returns-in_default c = no_place c.args.first c.args.place c.args.number (sym c.place_of.ensures ∙ c.in_default.is)

pub returns : goal.returns
returns c = one_place c.args.first c.args.place c.args.number c.in-Some.at (sym c.place_of.ensures ∙ c.in-Some.is)
