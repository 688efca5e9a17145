use Rattle.lp_lemmas.proofs.Results.{passed_up}
use Rattle.lp_files.specs.Unlinked.{IsUnjoined}
use Rattle.lp_files.proofs.Linking.{long_image_is, spells_linked}
use Rattle.lp_files.proofs.link.linked_bytes.Goals as goal

pub returns-clause-image : goal.returns-clause-image
returns-clause-image c = spells_linked c.args.objects.now c.in_ok-image.image c.image_bytes.result c.in_ok-image.ensures.linked c.image_bytes.ensures.spelled

pub returns-in_err-image-clause-cause : goal.returns-in_err-image-clause-cause
returns-in_err-image-clause-cause c = passed_up c.from_residual.result c.in_err-image.field-0.0 (IsUnjoined c.args.objects.now) c.from_residual.ensures.1 c.in_err-image.ensures.cause

pub returns-clause-cause : goal.returns-clause-cause
returns-clause-cause c = long_image_is c.args.objects.now c.in_ok-image.image c.image_bytes.result c.in_ok-image.ensures.linked c.image_bytes.ensures.cause
