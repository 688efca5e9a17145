use Rattle.lp_build.proofs.ImageClauses.{image_denotes}
use Rattle.lp_build.proofs.laws.an_image_denotes_the_program.Goals as goal

pub returns : goal.returns
returns c = image_denotes
