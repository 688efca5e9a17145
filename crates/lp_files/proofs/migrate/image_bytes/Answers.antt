use Rattle.std.proofs.Common.{length}
use Rattle.lp_object.specs.Files.{spelled_image}
use Rattle.lp_object.specs.Plain.{plain_image}
use Rattle.lp_files.proofs.migrate.image_bytes.Goals as goal

pub returns-in-Ok-clause-spelled : goal.returns-in-Ok-clause-spelled
returns-in-Ok-clause-spelled c = c.in-Ok.ensures.spelled.0

pub returns-in-Err-clause-cause : goal.returns-in-Err-clause-cause
returns-in-Err-clause-cause c = c.unwritten.ensures.says (length (spelled_image (plain_image c.args.image.now))) c.in-Err.ensures.many
