use Rattle.lp_lemmas.proofs.Results.{passed_up}
use Rattle.lp_build.specs.Unmade.{IsRefusedImage, no_modules}
use Rattle.lp_build.proofs.Imaging.{image_is}
use Rattle.lp_build.proofs.Unmaking.{image_layer}
use Rattle.lp_build.proofs.build.build_image.Goals as goal

pub returns-clause-image : goal.returns-clause-image
returns-clause-image c = λ read. image_is c.args.sources.now c.in_ok-modules.modules.items c.image_of.result (c.in_ok-modules.ensures.meanings read) c.image_of.ensures.image

pub returns-in_err-modules-clause-cause : goal.returns-in_err-modules-clause-cause
returns-in_err-modules-clause-cause c = λ read.
    passed_up c.from_residual.result c.in_err-modules.field-0.0 (IsRefusedImage c.args.sources.now) c.from_residual.ensures.1 (no_modules (c.in_err-modules.ensures.cause read))

pub returns-clause-cause : goal.returns-clause-cause
returns-clause-cause c = λ read. image_layer c.args.sources.now c.in_ok-modules.modules.items c.image_of.result read (c.in_ok-modules.ensures.meanings read) c.image_of.ensures.cause
