-- The bytes of the file that a command makes.
use Rattle.std.specs.Prelude.{◌≡◌, ◌++◌, ℕ, true, false, List, Option, IfSome, All, is_some, codes}
use Rattle.lp_base.specs.Held.{Held, Puts}
use Rattle.lp_code.specs.declared.object.Object.{Object}
use Rattle.lp_code.specs.declared.image.Image.{Image}
use Rattle.lp_code.specs.Denote.{denote}
use Rattle.lp_code.specs.Naming.{object_tables}
use Rattle.lp_link.specs.Linked.{IsLinked}
use Rattle.lp_object.specs.Files.{spelled_image, spelled_object}
use Rattle.lp_object.specs.Plain.{PlainImage, plain_image, plain_object}
use Rattle.lp_object.specs.Spellable.{SpellsImage}
use Rattle.lp_build.specs.Compiled.{IsCompiled}
use Rattle.lp_build.specs.Named.{IsFileNamed}
use Rattle.lp_build.specs.Ordered.{AreInOrder}
use Rattle.lp_build.specs.Reads.{AreRead}
use Rattle.lp_build.specs.Told.{AreLoaded, IsTold}
use Rattle.lp_build.specs.declared.sources.Sources.{Sources}
use Rattle.lp_words.specs.declared.asked.FileCommand.{FileCommand}
use Rattle.lp_words.specs.declared.asked.FileCommand.TheVariants.{Compile, Link, Migrate}
use Rattle.lp_files.specs.Ordered.{AreInOrder as AreObjectsInOrder}
use Rattle.lp_files.specs.Target.{ending_of}

-- the object of the module of a name, whose text is one of these files
abbrev pub IsCompiledOf : Sources → (name : List ℕ) → Object → Type 0
IsCompiledOf sources name o = (number : ℕ) × IsFileNamed sources.files.items number (name ++ codes ".mod") × IsCompiled sources number o

-- bytes spell such an object
abbrev pub SpellsCompiled : Sources → (name bytes : List ℕ) → Type 0
SpellsCompiled sources name bytes = (o : Object) × IsCompiledOf sources name o × (bytes ≡ spelled_object (plain_object o))

-- so they do for the texts of the module and of the signatures that it needs, in load order, which have the bytes that the folder tells
pub record IsObjectMade (told : Option Held) (name bytes : List ℕ) : Type 0 where
  pub sources : Sources
  pub ordered : AreInOrder false name sources
  pub files : AreLoaded told sources
  pub read : AreRead sources
  pub spells : SpellsCompiled sources name bytes

-- the bytes under the name of an image spell it, in the version of today or the one before
pub record IsHeldImage (told : Option Held) (name : List ℕ) (image : PlainImage) : Type 0 where
  pub bytes : List ℕ
  pub there : IsTold told (name ++ codes ".lp") bytes
  pub spelled : SpellsImage image bytes

-- bytes are the spelling of today of such an image
abbrev pub IsMigrated : (told : Option Held) → (name bytes : List ℕ) → Type 0
IsMigrated told name bytes = (image : PlainImage) × IsHeldImage told name image × (bytes ≡ spelled_image image)

-- the bytes under the name of its file spell an object, whose records denote clauses
pub record IsHeldObject (told : Option Held) (o : Object) : Type 0 where
  pub bytes : List ℕ
  pub there : IsTold told (o.name.items ++ codes ".lpo") bytes
  pub spelled : bytes ≡ spelled_object (plain_object o)
  pub denotes : is_some (denote (object_tables o) o.code.records.items) ≡ true

abbrev pub AreHeldObjects : (told : Option Held) → List Object → Type 0
AreHeldObjects told os = All (IsHeldObject told) os

-- bytes are the spelling of today of an image that denotes the clauses of the copies of these objects, of which the first is the root
abbrev pub SpellsLinked : List Object → (bytes : List ℕ) → Type 0
SpellsLinked os bytes = (image : Image) × IsLinked os 0 image × (bytes ≡ spelled_image (plain_image image))

-- so they are for objects that the folder holds, that of this name and all that they use, in order
pub record IsImageLinked (told : Option Held) (name bytes : List ℕ) : Type 0 where
  pub objects : List Object
  pub ordered : AreObjectsInOrder name objects
  pub held : AreHeldObjects told objects
  pub spells : SpellsLinked objects bytes

-- what a command makes
abbrev pub IsMade : (told : Option Held) → FileCommand → (name bytes : List ℕ) → Type 0
IsMade told Compile name bytes = IsObjectMade told name bytes
IsMade told Link name bytes = IsImageLinked told name bytes
IsMade told Migrate name bytes = IsMigrated told name bytes

-- such bytes stand under the name of its file, and nothing else has changed in the folder
pub record WritesMade (told now : Option Held) (command : FileCommand) (name : List ℕ) : Type 0 where
  pub bytes : List ℕ
  pub made : IsMade told command name bytes
  pub stands : IfSome told (λ old. IfSome now (Puts (name ++ ending_of command) bytes old))
