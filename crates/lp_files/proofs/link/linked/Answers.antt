use Rattle.lp_lemmas.proofs.Results.{passed_up}
use Rattle.lp_lines.proofs.Looking.{looked_judged}
use Rattle.lp_files.specs.Unlinked.{IsUnlinked}
use Rattle.lp_files.proofs.Linking.{image_linked, unlinked_is}
use Rattle.lp_files.proofs.link.linked.Goals as goal

pub returns-clause-looked : goal.returns-clause-looked
returns-clause-looked g c = looked_judged c.linked_bytes.result c.in_ok-objects.ensures.looked c.linked_bytes.ensures.judged

pub returns-clause-image : goal.returns-clause-image
returns-clause-image g c =
    image_linked (g.F.Folder.held c.args.folder.now) c.args.name.now c.in_ok-objects.objects.items c.as_slice.result.now c.linked_bytes.result c.as_slice.ensures.value
    c.in_ok-objects.ensures.ordered c.in_ok-objects.ensures.held c.linked_bytes.ensures.image

pub returns-in_err-objects-clause-cause : goal.returns-in_err-objects-clause-cause
returns-in_err-objects-clause-cause g c = passed_up c.from_residual.result c.in_err-objects.field-0.0 (IsUnlinked (g.F.Folder.held c.args.folder.now) c.args.name.now) c.from_residual.ensures.1 c.in_err-objects.ensures.cause

pub returns-clause-cause : goal.returns-clause-cause
returns-clause-cause g c =
    unlinked_is (g.F.Folder.held c.args.folder.now) c.args.name.now c.in_ok-objects.objects.items c.as_slice.result.now c.linked_bytes.result c.as_slice.ensures.value
    c.in_ok-objects.ensures.ordered c.in_ok-objects.ensures.held c.linked_bytes.ensures.cause
