-- Why texts have no program: a file is not loaded, or the first fault of the texts, or of the limits on their program and its code.
use Rattle.std.specs.Global.{Global}
use Rattle.std.specs.Prelude.{◌≡◌, ℕ, true, List, Option, None, Some, String, string_bytes}
use Rattle.lp_base.specs.Held.{Held}
use Rattle.lp_build.specs.Ordered.{AreInOrder, AreInOrderSoFar}
use Rattle.lp_build.specs.Reads.{AreRead}
use Rattle.lp_build.specs.Refused.{IsRefusedProgram}
use Rattle.lp_build.specs.Told.{AreLoaded, IsFaultIn}
use Rattle.lp_build.specs.declared.fault.BuildFault.{BuildFault}
use Rattle.lp_build.specs.declared.fault.BuildFault.TheVariants as build
use Rattle.lp_build.specs.declared.sources.Sources.{Sources}
use Rattle.lp_lines.specs.Causes.{TellsDeclarations, TellsModule, TellsSyntax}
use Rattle.lp_lines.specs.Placed.{IsSourceLine, IsTokenLine}
use Rattle.lp_lines.specs.Refusals.{TellsFault, TellsLimit, TellsMissing}
use Rattle.lp_lines.specs.declared.cause.Cause.{Cause}
use Rattle.lp_lines.specs.declared.cause.Cause.TheVariants as cause
use Rattle.lp_lines.specs.declared.refusal.Refusal.{Refusal}
use Rattle.lp_lines.specs.declared.refusal.Refusal.TheVariants as refusal
use Rattle.lp_load.specs.Placed.{SaysOfFile}

-- what is said of a fault of texts that have tokens
abbrev pub TellsTexts : BuildFault → Cause → Type 0
TellsTexts (build.Syntax f) c = TellsSyntax f c
TellsTexts (build.Sig f) c = TellsDeclarations f c
TellsTexts (build.Module f) c = TellsModule f c
TellsTexts (build.Limit l) c = c ≡ cause.Limit l
TellsTexts _ c = c ≡ cause.Memory

-- what is said of a file of this name that was not loaded
abbrev pub TellsOfFile : (file : List ℕ) → BuildFault → Refusal → Type 0
TellsOfFile file (build.Read n) r = TellsFault file r
TellsOfFile file (build.Missing n) r = TellsMissing file r
TellsOfFile file (build.Lex n e) r = IsSourceLine (IsTokenLine file e) r
TellsOfFile file (build.Limit l) r = TellsLimit l r
TellsOfFile file _ r = r ≡ refusal.Memory

-- what is said where no file is at fault: a limit, or want of memory
abbrev pub TellsOfNone : BuildFault → Refusal → Type 0
TellsOfNone (build.Read n) r = ⊥
TellsOfNone (build.Missing n) r = ⊥
TellsOfNone (build.Lex n e) r = ⊥
TellsOfNone (build.Limit l) r = TellsLimit l r
TellsOfNone _ r = r ≡ refusal.Memory

-- what is said of the file at fault, where there is one
abbrev pub TellsFile : Option (String Global) → BuildFault → Refusal → Type 0
TellsFile (Some name) e r = TellsOfFile (string_bytes name) e r
TellsFile None e r = TellsOfNone e r

-- the texts of these files have no program, for the first of their faults
pub data IsRefusedTexts (sources : Sources) (r : Refusal) : Type 0 where
  of_texts : (e : BuildFault) (c : Cause) → IsRefusedProgram sources e → TellsTexts e c → SaysOfFile sources.files.items c r → IsRefusedTexts sources r
  no_memory : r ≡ refusal.Memory → IsRefusedTexts sources r

-- a module has no program: behind the first of the files that it needs, which were loaded in their order, the next text is at fault, by its file or for a limit that is counted there; or all are loaded, and their texts have none
pub data IsUnbuilt (told : Option Held) (root : List ℕ) (r : Refusal) : Type 0 where
  of_files : (sources : Sources) (e : BuildFault) → AreLoaded told sources → AreRead sources → AreInOrderSoFar true root sources e → IsFaultIn told sources e →
      TellsFile sources.refused e r → IsUnbuilt told root r
  of_loaded : (sources : Sources) → AreLoaded told sources → AreRead sources → AreInOrder true root sources → IsRefusedTexts sources r → IsUnbuilt told root r
