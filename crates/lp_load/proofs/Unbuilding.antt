-- Why texts have no program.
use Rattle.std.proofs.Common.{◌≡◌, ℕ, true, List, Option, Some, None, Result, Ok, Err, refl, sym, subst}
use Rattle.std.specs.Global.{Global}
use Rattle.std.specs.Prelude.{IfErr, IfSome, String, string_bytes}
use Rattle.lp_base.specs.Held.{Held}
use Rattle.lp_base.specs.declared.limit.Limit.{Limit}
use Rattle.lp_build.specs.Ordered.{AreInOrder}
use Rattle.lp_build.specs.Reads.{AreRead}
use Rattle.lp_build.specs.Told.{AreLoaded, IsFaultNamed}
use Rattle.lp_build.specs.declared.build.Built.{Built}
use Rattle.lp_build.specs.declared.fault.BuildFault.{BuildFault}
use Rattle.lp_build.specs.declared.fault.BuildFault.TheVariants as build
use Rattle.lp_build.specs.declared.sources.Sources.{Sources}
use Rattle.lp_lines.specs.Refusals.{TellsLimit}
use Rattle.lp_lines.specs.declared.refusal.Refusal.{Refusal}
use Rattle.lp_lines.specs.declared.refusal.Refusal.TheVariants.{Memory}
use Rattle.lp_load.specs.Unbuilt.{IsRefusedTexts, IsUnbuilt, TellsFile, TellsOfFile, TellsOfNone, of_loaded}

-- what is told of the file of a name
pub named_so : (told : Option Held) (refused : Option (String Global)) (file : List ℕ) (e f : BuildFault) (r : Refusal) → (IsFaultNamed told None e → ⊥) → IfSome refused (λ s. file ≡ string_bytes s) → f ≡ e →
    IsFaultNamed told refused f → TellsOfFile file e r → TellsFile refused f r
named_so told None file e f r never is same there t = absurd (never (subst (IsFaultNamed told None) same there))
named_so told (Some s) file e f r never is same there t = subst (λ g. TellsOfFile (string_bytes s) g r) (sym same) (subst (λ w. TellsOfFile w e r) is t)

-- what is told of a limit has no name
pub limit_so : (refused : Option (String Global)) (l : Limit) (f : BuildFault) (r : Refusal) → f ≡ build.Limit l → TellsLimit l r → TellsFile refused f r
limit_so None l f r same t = subst (λ g. TellsOfNone g r) (sym same) t
limit_so (Some s) l f r same t = subst (λ g. TellsOfFile (string_bytes s) g r) (sym same) t

-- want of memory is told of any fault
wanting : (file : List ℕ) (f : BuildFault) → TellsOfFile file f Memory
wanting file (build.Read n) = tt
wanting file (build.Missing n) = tt
wanting file (build.Lex n e) = tt
wanting file (build.Limit l) = tt
wanting file (build.Syntax e) = refl
wanting file (build.Sig e) = refl
wanting file (build.Module e) = refl
wanting file build.Memory = refl

wanting_none : (told : Option Held) (f : BuildFault) → IsFaultNamed told None f → TellsOfNone f Memory
wanting_none told (build.Read n) h = h
wanting_none told (build.Missing n) h = h
wanting_none told (build.Lex n e) h = h
wanting_none told (build.Limit l) h = tt
wanting_none told (build.Syntax e) h = refl
wanting_none told (build.Sig e) h = refl
wanting_none told (build.Module e) h = refl
wanting_none told build.Memory h = refl

pub none_told : (told : Option Held) (refused : Option (String Global)) (f : BuildFault) → IsFaultNamed told refused f → TellsFile refused f Memory
none_told told None f there = wanting_none told f there
none_told told (Some s) f there = wanting (string_bytes s) f

-- the files were loaded, and their texts have no program
pub unbuilt_is : (told : Option Held) (root : List ℕ) (sources : Sources) (r : Result Built Refusal) → AreInOrder true root sources → AreLoaded told sources → AreRead sources → IfErr r (IsRefusedTexts sources) → IfErr r (IsUnbuilt told root)
unbuilt_is told root sources (Ok built) ordered files read h = tt
unbuilt_is told root sources (Err e) ordered files read h = of_loaded sources files read ordered h
