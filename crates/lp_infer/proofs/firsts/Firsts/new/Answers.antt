use Rattle.std.proofs.Common.{ap, map, ◌∙◌, sym}
use Rattle.std.specs.Map.{lookup}
use Rattle.std.specs.Str.{bytes_eq}
use Rattle.lp_sig.specs.Pieces.{spelled}
use Rattle.lp_sig.specs.Places.{first_place}
use Rattle.lp_infer.specs.Firsts.{number_in}
use Rattle.lp_infer.proofs.firsts.Firsts.new.Goals as goal

pub returns-clause-firsts : goal.returns-clause-firsts
unfolding number_in
returns-clause-firsts c = λ text name. ap (lookup (λ k. bytes_eq name k.items)) c.new-2.ensures.empty ∙ sym (ap (λ ss. first_place name (map (spelled text) ss)) c.new.ensures.items)
