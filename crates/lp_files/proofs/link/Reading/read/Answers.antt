use Rattle.std.proofs.Common.{refl}
use Rattle.lp_lemmas.proofs.Results.{passed_up}
use Rattle.lp_lines.specs.declared.refusal.Refusal.TheVariants as refusal
use Rattle.lp_files.specs.Unlinked.{IsUnread, unopened}
use Rattle.lp_files.specs.Unopened.{no_memory}
use Rattle.lp_files.proofs.link.Reading.read.Goals as goal

pub returns-clause-more : goal.returns-clause-more
returns-clause-more g c = (c.in_ok-object.object, c.in_ok-take.ensures.pushed, c.in_ok-object.ensures.named, c.in_ok-object.ensures.held)

pub returns-in_err-object-clause-cause : goal.returns-in_err-object-clause-cause
returns-in_err-object-clause-cause g c =
    passed_up c.from_residual.result c.in_err-object.field-0.0 (IsUnread (g.F.Folder.held c.args.folder.now) c.args.self.now.objects.items c.args.name.now) c.from_residual.ensures.1 c.in_err-object.ensures.cause

pub returns-in_err-take-clause-cause : goal.returns-in_err-take-clause-cause
returns-in_err-take-clause-cause g c =
    passed_up c.from_residual-in_err-take.result refusal.Memory (IsUnread (g.F.Folder.held c.args.folder.now) c.args.self.now.objects.items c.args.name.now) c.from_residual-in_err-take.ensures.1 (unopened (no_memory refl))
