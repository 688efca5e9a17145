-- The names of an image of modules, and the types of its constants, are those of their program.
use Rattle.std.proofs.Common.{length}
use Rattle.lp_code.specs.declared.image.Image.{Image}
use Rattle.lp_link.specs.Names.{HasNames}
use Rattle.lp_module.specs.Program.{IsProgram}
use Rattle.lp_module.specs.declared.copies.Assembled.{Assembled}
use Rattle.lp_build.specs.Compiled.{ArePaired, HasNamesOf, IsObjectOf}
use Rattle.lp_build.specs.Copied.{HasCopies}
use Rattle.lp_build.specs.Images.{IsImage}
use Rattle.lp_build.specs.Reads.{AreRead}
use Rattle.lp_build.specs.SameNames.{HasSameNames, HasSameTypes}
use Rattle.lp_build.specs.declared.sources.Sources.{Sources}
use Rattle.lp_build.proofs.Compiling.{paired_weaker}
use Rattle.lp_build.proofs.ImageCopies.{copies_are}
use Rattle.lp_build.proofs.SameCopies.{IsShaped}
use Rattle.lp_build.proofs.SameNames.{names_same, types_same}
use Rattle.lp_build.proofs.Shapes.{all_shaped}
use Rattle.lp_build.proofs.OwnTypes.{all_own_types}

module _ (sources : Sources) (image : Image) (h : IsImage sources image) (a : Assembled) (p : IsProgram h.modules h.is.root a) where
  shaped : ArePaired IsShaped h.modules (length h.modules) h.is.objects
  shaped = all_shaped h.modules h.is.objects h.are.meanings.meanings (paired_weaker IsObjectOf HasNamesOf h.modules (length h.modules) h.is.objects (λ m o p. p.names) h.is.are)

  copies : HasCopies h.is.objects h.is.root p.copied
  copies = copies_are sources image h p.copied p.are

  names : HasNames copies.copies image
  names = h.is.named copies.top copies.end copies.copies copies.there copies.are

  pub image_names : HasSameNames a image
  image_names = names_same h.modules h.is.objects shaped h.is.root a p copies.copies copies.same image names

  pub image_types : AreRead sources → HasSameTypes a image
  image_types read = types_same h.modules h.is.objects shaped h.is.root a p copies.copies copies.same image names (all_own_types sources h.modules read h.are)
