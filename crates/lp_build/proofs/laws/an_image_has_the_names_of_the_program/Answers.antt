use Rattle.lp_build.proofs.ImageNames.{image_names, image_types}
use Rattle.lp_build.proofs.laws.an_image_has_the_names_of_the_program.Goals as goal

pub returns-clause-names : goal.returns-clause-names
returns-clause-names c = image_names

pub returns-clause-types : goal.returns-clause-types
returns-clause-types c = image_types
