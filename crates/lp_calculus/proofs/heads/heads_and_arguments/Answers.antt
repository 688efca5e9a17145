use Rattle.lp_calculus.proofs.Rigid as lemmas
use Rattle.lp_calculus.proofs.heads.heads_and_arguments.Goals as goal

pub returns : goal.returns
returns c = λ h g ts us p q x. let j = lemmas.heads_joint h g ts us p q x in (j.heads, j.arguments)
