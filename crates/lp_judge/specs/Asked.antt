-- The query of a text, as it was typed on a program.
use Rattle.std.specs.Prelude.{◌≡◌, ℕ, true, List, Option}
use Rattle.lp_base.specs.Held.{Held}
use Rattle.lp_term.specs.Nodes.{Nodes}
use Rattle.lp_model.specs.declared.program.Typed.{Typed}
use Rattle.lp_module.specs.declared.copies.Assembled.{Assembled}
use Rattle.lp_module.specs.declared.module.Module.{Module}
use Rattle.lp_build.specs.Meant.{AreModules}
use Rattle.lp_build.specs.Ordered.{AreInOrder}
use Rattle.lp_build.specs.Reads.{AreRead}
use Rattle.lp_build.specs.Told.{AreLoaded}
use Rattle.lp_build.specs.declared.build.Built.{Built}
use Rattle.lp_build.specs.declared.sources.Sources.{Sources}
use Rattle.lp_load.specs.Asked.{IsAsked}
use Rattle.lp_load.specs.Loaded.{IsBuiltFrom, IsLoaded}
use Rattle.lp_judge.specs.Negated.{AreWithoutNot, texts_of}

-- it is what the text says under the operators and the names of this program, which is that of the texts of files; the word `not` stands in none of them
pub record IsAskedOf (sources : Sources) (text : List ℕ) (names : Assembled) (q : Typed) : Type 0 where
  pub built : Built
  pub program : IsBuiltFrom sources built
  pub same : built.assembled ≡ names
  pub asked : IsAsked built.table built.signature text names.program.bank q
  pub without : AreWithoutNot (texts_of sources.files.items text)

-- it is what the text says under the operators and the names of this program, which is that of the module of a name, as the folder tells its texts; the
-- word `not` stands in none of them
pub record IsAskedFrom (told : Option Held) (name text : List ℕ) (names : Assembled) (q : Typed) : Type 0 where
  pub built : Built
  pub program : IsLoaded told name built
  pub same : built.assembled ≡ names
  pub asked : IsAsked built.table built.signature text names.program.bank q
  pub without : AreWithoutNot (texts_of program.sources.files.items text)

-- these are the modules of the texts of files, and the query is what its text says under the operators and the names of their program
pub record AreTextsOf (sources : Sources) (text : List ℕ) (modules : List Module) (b : Nodes) (q : Typed) : Type 0 where
  pub are : AreModules sources modules
  pub built : Built
  pub program : IsBuiltFrom sources built
  pub asked : IsAsked built.table built.signature text b q

-- the files are those of the module of a name and of all that it needs, in load order, and have the bytes that the folder tells
pub record AreToldTexts (told : Option Held) (name text : List ℕ) (modules : List Module) (b : Nodes) (q : Typed) : Type 0 where
  pub sources : Sources
  pub ordered : AreInOrder true name sources
  pub files : AreLoaded told sources
  pub read : AreRead sources
  pub texts : AreTextsOf sources text modules b q
