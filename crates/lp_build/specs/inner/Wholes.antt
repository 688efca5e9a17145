-- The texts of files, and what their signatures mean.
use Rattle.std.specs.Global.{Global}
use Rattle.std.specs.Prelude.{◌≡◌, List, length, String, string_bytes}
use Rattle.lp_fixity.specs.Table.{entry_of}
use Rattle.lp_sig.specs.Refusals.{IsAt}
use Rattle.lp_sig.specs.declared.signature.Signature.{Signature}
use Rattle.lp_module.specs.declared.copies.Assembled.{Assembled}
use Rattle.lp_build.specs.Meant.{IsOwnSignature}
use Rattle.lp_build.specs.Queried.{AreOperatorsOf, IsSeenByQueries}
use Rattle.lp_build.specs.Refused.{AreAllDeclared}
use Rattle.lp_build.specs.inner.Linked.{AreDeclared, AreLinks, AreTextsSoFar}
use Rattle.lp_build.specs.declared.build.Built.{Built}
use Rattle.lp_build.specs.declared.build.Whole.{Whole}
use Rattle.lp_build.specs.declared.sources.File.{File}

-- they are those of these files
pub record IsWhole (files : List File) (w : Whole) : Type 0 where
  pub links : AreLinks files w.links
  pub texts : AreTextsSoFar files (length files) w.texts
  pub declared : AreDeclared w.texts.signatures w.signatures
  pub every : AreAllDeclared w.texts.signatures

-- the own signature of the first module
pub record IsRootSignature (files : List File) (w : Whole) (own : Signature) : Type 0 where
  pub name : String Global
  pub first : IsAt w.texts.modules.names.items 0 name
  pub is : IsOwnSignature files w.texts.signatures (string_bytes name) own

-- a program with what queries see of a signature
pub record IsSeenOf (own : Signature) (assembled : Assembled) (built : Built) : Type 0 where
  pub same : built.assembled ≡ assembled
  pub seen : IsSeenByQueries own assembled.kinds.items assembled.constants.items built.signature
  pub operators : AreOperatorsOf built.signature (entry_of built.table)
