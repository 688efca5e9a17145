-- The program of the texts of a set of files, and what queries see of it.
use Rattle.std.specs.Global.{Global}
use Rattle.std.specs.Prelude.{◌≡◌, ℕ, ◌+◌, List, length, All, String, string_bytes}
use Rattle.lp_fixity.specs.Table.{entry_of}
use Rattle.lp_sig.specs.Refusals.{IsAt}
use Rattle.lp_sig.specs.declared.signature.Signature.{Signature}
use Rattle.lp_module.specs.Program.{IsProgram}
use Rattle.lp_module.specs.declared.module.Module.{Module}
use Rattle.lp_build.specs.Meant.{AreModules, IsOwnSignature}
use Rattle.lp_build.specs.Uncoded.{IsWithinCode}
use Rattle.lp_build.specs.Queried.{AreOperatorsOf, IsSeenByQueries}
use Rattle.lp_build.specs.declared.build.Built.{Built}
use Rattle.lp_build.specs.declared.sources.Sources.{Sources}

-- the program of modules, whose root is the last of them; queries see the names of this signature, and its operators
pub record IsProgramOf (modules : List Module) (own : Signature) (built : Built) : Type 0 where
  pub root : ℕ
  pub last : root + 1 ≡ length modules
  pub program : IsProgram modules root built.assembled
  pub seen : IsSeenByQueries own built.assembled.kinds.items built.assembled.constants.items built.signature
  pub operators : AreOperatorsOf built.signature (entry_of built.table)

-- the program of the modules of these files, each of which has code, with what queries see of the own signature of the first module of the files
pub record IsBuilt (sources : Sources) (built : Built) : Type 0 where
  pub modules : List Module
  pub are : AreModules sources modules
  pub name : String Global
  pub first : IsAt are.texts.names.items 0 name
  pub own : Signature
  pub own_is : IsOwnSignature sources.files.items are.signatures (string_bytes name) own
  pub program : IsProgramOf modules own built
  pub coded : All IsWithinCode modules
