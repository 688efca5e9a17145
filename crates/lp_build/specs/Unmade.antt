-- Why a module has no object, and modules have no image: the first fault of their texts, layer by layer, or else of the modules, or else the first of the limits that are passed.
use Rattle.std.specs.Prelude.{◌≡◌, ℕ, ◌+◌, List, length, take, All}
use Rattle.lp_base.specs.declared.limit.Limit.{Limit}
use Rattle.lp_base.specs.declared.limit.Limit.TheVariants as limit
use Rattle.lp_code.specs.declared.object.Object.{Object}
use Rattle.lp_link.specs.Refusals.{HasManyCopies, IsLinkRefusal}
use Rattle.lp_link.specs.declared.fault.LinkRefusal.TheVariants as link
use Rattle.lp_syntax.specs.declared.text.ModuleText.{ModuleText}
use Rattle.lp_syntax.specs.declared.text.SignatureText.{SignatureText}
use Rattle.lp_sig.specs.Refusals.{IsAt}
use Rattle.lp_module.specs.declared.fault.ModuleFault.{ModuleFault}
use Rattle.lp_module.specs.declared.module.Module.{Module}
use Rattle.lp_build.specs.Compiled.{ArePaired, HasNamesOf, IsModuleOfFile, IsObjectOf}
use Rattle.lp_build.specs.Limits.{IsUnmade, NamesFew, NamesMany}
use Rattle.lp_build.specs.Meant.{AreModules}
use Rattle.lp_build.specs.Refused.{AreAllDeclared, AreWhole, IsModuleFault, IsRefusedModules, IsRefusedWhole, of_module}
use Rattle.lp_build.specs.Uncoded.{IsUncoded, IsWithinCode}
use Rattle.lp_build.specs.declared.fault.BuildFault.{BuildFault}
use Rattle.lp_build.specs.declared.fault.BuildFault.TheVariants as fault
use Rattle.lp_build.specs.declared.sources.File.{File}
use Rattle.lp_build.specs.declared.sources.Sources.{Sources}
use Rattle.lp_build.specs.declared.texts.Group.{Group}

-- the module is refused whose text is the file of a number
pub record IsModuleFaultOf (files : List File) (g : Group SignatureText) (t : Group ModuleText) (number : ℕ) (e : BuildFault) : Type 0 where
  pub place : ℕ
  pub there : IsAt t.numbers.items place number
  pub cause : ModuleFault
  pub refused : IsModuleFault files g t place cause
  pub is : e ≡ of_module cause

-- Why the module whose text is the file of a number has no object: the texts have a fault, or else it has one itself, or else its object passes a limit.
pub data IsRefusedObject (sources : Sources) (number : ℕ) (e : BuildFault) : Type 0 where
  no_texts : IsRefusedWhole sources e → IsRefusedObject sources number e
  no_meaning : (g : Group SignatureText) (t : Group ModuleText) → AreWhole sources g t → AreAllDeclared g → IsModuleFaultOf sources.files.items g t number e → IsRefusedObject sources number e
  no_object : (g : Group SignatureText) (t : Group ModuleText) → AreWhole sources g t → AreAllDeclared g → (m : Module) → IsModuleOfFile sources.files.items g t number m → IsUnmade m e → IsRefusedObject sources number e

-- images

-- the first of these modules that has no code
pub record IsFirstUnmade (modules : List Module) (e : BuildFault) : Type 0 where
  pub place : ℕ
  pub «module» : Module
  pub at : IsAt modules place «module»
  pub before : All IsWithinCode (take place modules)
  pub refused : IsUncoded «module» e

-- one of them has too many names
pub record IsOneNamedMany (modules : List Module) : Type 0 where
  pub place : ℕ
  pub «module» : Module
  pub at : IsAt modules place «module»
  pub many : NamesMany «module»

-- why modules have no image: the limit on copies goes first, then those of the code of each, then the one on names, then those of what is linked from their objects, as lp_link has them. These never differ in a name
pub data AreUnlinked (modules : List Module) (e : BuildFault) : Type 0 where
  all_copies : (named : List Object) (root : ℕ) → ArePaired HasNamesOf modules (length modules) named → root + 1 ≡ length modules → HasManyCopies named root → e ≡ fault.Limit limit.Copies → AreUnlinked modules e
  one_code : IsFirstUnmade modules e → AreUnlinked modules e
  one_names : All IsWithinCode modules → IsOneNamedMany modules → e ≡ fault.Limit limit.Names → AreUnlinked modules e
  no_link : All IsWithinCode modules → All NamesFew modules → (objects : List Object) (root : ℕ) (l : Limit) → ArePaired IsObjectOf modules (length modules) objects → root + 1 ≡ length modules →
      IsLinkRefusal objects root (link.Limit l) → e ≡ fault.Limit l → AreUnlinked modules e
  unlinked_memory : e ≡ fault.Memory → AreUnlinked modules e

-- Why files have no image: they have no modules, or else these have none.
pub data IsRefusedImage (sources : Sources) (e : BuildFault) : Type 0 where
  no_modules : IsRefusedModules sources e → IsRefusedImage sources e
  no_image : (all : List Module) → AreModules sources all → AreUnlinked all e → IsRefusedImage sources e
