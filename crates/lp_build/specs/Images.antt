-- The image of a set of files.
use Rattle.std.specs.Prelude.{◌≡◌, ℕ, ◌+◌, List, length}
use Rattle.lp_code.specs.declared.object.Object.{Object}
use Rattle.lp_code.specs.declared.image.Image.{Image}
use Rattle.lp_module.specs.declared.module.Module.{Module}
use Rattle.lp_link.specs.Linked.{IsLinked}
use Rattle.lp_link.specs.Names.{IsNamed}
use Rattle.lp_link.specs.Refusals.{CanBeLinked}
use Rattle.lp_build.specs.Compiled.{ArePaired, IsObjectOf}
use Rattle.lp_build.specs.Meant.{AreModules}
use Rattle.lp_build.specs.declared.sources.Sources.{Sources}

-- the image of modules: nothing differs between their objects, it denotes what these denote, linked as copies of the last one, and has the names of these copies
pub record IsImageOf (modules : List Module) (image : Image) : Type 0 where
  pub objects : List Object
  pub are : ArePaired IsObjectOf modules (length modules) objects
  pub root : ℕ
  pub last : root + 1 ≡ length objects
  pub can : CanBeLinked objects root
  pub linked : IsLinked objects root image
  pub named : IsNamed objects root image

-- the image of the modules of these files
pub record IsImage (sources : Sources) (image : Image) : Type 0 where
  pub modules : List Module
  pub are : AreModules sources modules
  pub is : IsImageOf modules image
