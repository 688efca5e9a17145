-- Why a module has no object file: a file is not loaded, or the first fault of the texts, of the module, or of the limits on its object.
use Rattle.std.specs.Prelude.{◌≡◌, ◌++◌, ◌<◌, ℕ, false, List, Option, codes, length}
use Rattle.lp_base.specs.Held.{Held}
use Rattle.lp_base.specs.declared.limit.Limit.TheVariants as limit
use Rattle.lp_code.specs.declared.object.Object.{Object}
use Rattle.lp_object.specs.Files.{spelled_object}
use Rattle.lp_object.specs.Plain.{plain_object}
use Rattle.lp_build.specs.Named.{IsFileNamed}
use Rattle.lp_build.specs.Ordered.{AreInOrder, AreInOrderSoFar}
use Rattle.lp_build.specs.Reads.{AreRead}
use Rattle.lp_build.specs.Told.{AreLoaded, IsFaultIn}
use Rattle.lp_build.specs.Unmade.{IsRefusedObject}
use Rattle.lp_build.specs.declared.fault.BuildFault.{BuildFault}
use Rattle.lp_build.specs.declared.sources.Sources.{Sources}
use Rattle.lp_lines.specs.Refusals.{TellsLimit}
use Rattle.lp_lines.specs.declared.cause.Cause.{Cause}
use Rattle.lp_lines.specs.declared.refusal.Refusal.{Refusal}
use Rattle.lp_lines.specs.declared.refusal.Refusal.TheVariants as refusal
use Rattle.lp_load.specs.Placed.{SaysOfFile}
use Rattle.lp_load.specs.Unbuilt.{TellsFile, TellsTexts}
use Rattle.lp_files.specs.Made.{IsCompiledOf}

-- the module of a name among these files has no object, for the first fault of the texts or of the object; or more bytes spell it than a file may have
pub data IsUnspelled (sources : Sources) (name : List ℕ) (r : Refusal) : Type 0 where
  of_object : (number : ℕ) (e : BuildFault) (c : Cause) → IsFileNamed sources.files.items number (name ++ codes ".mod") → IsRefusedObject sources number e → TellsTexts e c → SaysOfFile sources.files.items c r → IsUnspelled sources name r
  of_bytes : (o : Object) → IsCompiledOf sources name o → 16777216 < length (spelled_object (plain_object o)) → TellsLimit limit.Image r → IsUnspelled sources name r
  no_memory : r ≡ refusal.Memory → IsUnspelled sources name r

-- a module has no object file: behind the first of the files that it needs, which were loaded in their order, the next text is at fault, by its file or for a limit that is counted there; or all are loaded, and it has none by their texts
pub data IsUncompiled (told : Option Held) (name : List ℕ) (r : Refusal) : Type 0 where
  of_files : (sources : Sources) (e : BuildFault) → AreLoaded told sources → AreRead sources → AreInOrderSoFar false name sources e → IsFaultIn told sources e → TellsFile sources.refused e r → IsUncompiled told name r
  of_loaded : (sources : Sources) → AreLoaded told sources → AreRead sources → AreInOrder false name sources → IsUnspelled sources name r → IsUncompiled told name r
  no_space : r ≡ refusal.Memory → IsUncompiled told name r
