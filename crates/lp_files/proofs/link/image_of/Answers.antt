use Rattle.lp_files.proofs.Linking.{unlinked_or}
use Rattle.lp_files.proofs.link.image_of.Goals as goal

pub returns-in-Err-clause-cause : goal.returns-in-Err-clause-cause
returns-in-Err-clause-cause c = unlinked_or c.args.objects.now c.in-Err.refusal c.unlinked.result c.in-Err.ensures.refused c.unlinked.ensures.says
