use Rattle.lp_build.proofs.ImageCopies.{copies_are}
use Rattle.lp_build.proofs.laws.an_image_has_the_copies_of_the_program.Goals as goal

pub returns : goal.returns
returns c = copies_are
