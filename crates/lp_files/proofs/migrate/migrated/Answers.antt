use Rattle.std.proofs.Common.{sym, subst}
use Rattle.lp_object.specs.Plain.{plain_image}
use Rattle.lp_lines.proofs.Looking.{looked_judged}
use Rattle.lp_files.specs.Made.{IsHeldImage}
use Rattle.lp_lemmas.proofs.Results.{passed_up}
use Rattle.lp_files.specs.Unlinked.{IsUnmigrated, of_image}
use Rattle.lp_files.proofs.Linking.{long_migrated}
use Rattle.lp_files.proofs.Making.{migrated_is}
use Rattle.lp_files.proofs.migrate.migrated.Goals as goal

pub returns-clause-looked : goal.returns-clause-looked
returns-clause-looked g c = looked_judged c.image_bytes.result c.in_ok-verified.ensures.looked c.image_bytes.ensures.judged

pub returns-clause-same : goal.returns-clause-same
returns-clause-same g c =
    let held = g.F.Folder.held c.args.folder.now in
    migrated_is held c.args.name.now (plain_image c.image.result.now) c.image_bytes.result
    (subst (λ x. IsHeldImage held c.args.name.now (plain_image x)) (sym c.image.ensures) c.in_ok-verified.ensures.held) c.image_bytes.ensures.spelled

pub returns-in_err-verified-clause-cause : goal.returns-in_err-verified-clause-cause
returns-in_err-verified-clause-cause g c = passed_up c.from_residual.result c.in_err-verified.field-0.0 (IsUnmigrated (g.F.Folder.held c.args.folder.now) c.args.name.now) c.from_residual.ensures.1 (of_image c.in_err-verified.ensures.cause)

pub returns-clause-cause : goal.returns-clause-cause
returns-clause-cause g c =
    let held = g.F.Folder.held c.args.folder.now in
    long_migrated held c.args.name.now (plain_image c.image.result.now) c.image_bytes.result
    (subst (λ x. IsHeldImage held c.args.name.now (plain_image x)) (sym c.image.ensures) c.in_ok-verified.ensures.held) c.image_bytes.ensures.cause
