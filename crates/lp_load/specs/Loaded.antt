-- The program of a module, as the folder tells its texts.
use Rattle.std.specs.Prelude.{◌≡◌, ℕ, true, List, Option}
use Rattle.lp_base.specs.Held.{Held}
use Rattle.lp_term.specs.Nodes.{Extends}
use Rattle.lp_build.specs.Ordered.{AreInOrder}
use Rattle.lp_build.specs.Programs.{IsBuilt}
use Rattle.lp_build.specs.Reads.{AreRead}
use Rattle.lp_build.specs.Told.{AreLoaded}
use Rattle.lp_build.specs.declared.build.Built.{Built}
use Rattle.lp_build.specs.declared.sources.Sources.{Sources}

-- a program is another one with more nodes in its bank, behind those that stood there
pub record HasGrown (old new : Built) : Type 0 where
  pub bank : Extends old.assembled.program.bank new.assembled.program.bank
  pub constants : new.assembled.program.constants ≡ old.assembled.program.constants
  pub clauses : new.assembled.program.clauses ≡ old.assembled.program.clauses
  pub kinds : new.assembled.kinds ≡ old.assembled.kinds
  pub names : new.assembled.constants ≡ old.assembled.constants
  pub signature : new.signature ≡ old.signature
  pub table : new.table ≡ old.table

-- a program is that of the texts of these files, with more nodes
pub record IsBuiltFrom (sources : Sources) (built : Built) : Type 0 where
  pub first : Built
  pub is : IsBuilt sources first
  pub grown : HasGrown first built

-- a program is that of the module of a name: of its texts and all that they need, in load order, of which the folder tells the bytes
pub record IsLoaded (told : Option Held) (root : List ℕ) (built : Built) : Type 0 where
  pub sources : Sources
  pub ordered : AreInOrder true root sources
  pub files : AreLoaded told sources
  pub read : AreRead sources
  pub program : IsBuiltFrom sources built
