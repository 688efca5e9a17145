use Rattle.lp_files.specs.Unlinked.{no_text}
use Rattle.lp_files.proofs.Unreading.{used_unread, user_is}
use Rattle.lp_files.proofs.link.Reading.open_used.Goals as goal

pub returns-in-Ok-clause-cause : goal.returns-in-Ok-clause-cause
returns-in-Ok-clause-cause g c =
    used_unread (g.F.Folder.held c.args.folder.now) c.args.self.now.objects.items c.args.name.now c.in-Ok.name.now c.open_object.result c.in-Ok.ensures.cases.0 c.open_object.ensures.cause

pub returns-in-Err-clause-cause : goal.returns-in-Err-clause-cause
returns-in-Err-clause-cause g c =
    let (there, used) = user_is c.args.self.now.objects.items c.args.user c.args.name.now c.index.result.now c.requires c.index.ensures in
    no_text c.args.user c.index.result.now there used c.in-Err.ensures.cases.0 c.misnamed.ensures.says
