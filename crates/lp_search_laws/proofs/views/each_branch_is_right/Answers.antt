use Rattle.lp_proof_laws.proofs.Uniform.Settings.{without_leaves}
use Rattle.lp_search_laws.proofs.LooksRight as lemmas
use Rattle.lp_search_laws.proofs.views.each_branch_is_right.Goals as goal

pub returns : goal.returns
returns c = λ n height d std P program q y b h. lemmas.each_branch n d (without_leaves d std) P program q height y b h
