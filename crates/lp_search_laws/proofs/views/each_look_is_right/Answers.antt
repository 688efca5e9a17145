use Rattle.lp_proof_laws.proofs.Uniform.Settings.{without_leaves}
use Rattle.lp_search_laws.proofs.LooksRight as lemmas
use Rattle.lp_search_laws.proofs.views.each_look_is_right.Goals as goal

pub returns : goal.returns
returns c = λ n height d std P program q T h. lemmas.each_look n d (without_leaves d std) P program q height T h
