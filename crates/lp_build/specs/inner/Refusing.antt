-- What is known of refusals while texts are gone through.
use Rattle.std.specs.Prelude.{◌≡◌, ◌⊎◌, ℕ, ◌+◌, ◌<◌, List, length, Option, Some, Result, Ok, Err}
use Rattle.std.specs.Option.{option_or}
use Rattle.lp_sig.specs.Refusals.{IsRefusedFrom}
use Rattle.lp_sig.specs.declared.fault.SigFault.{SigFault}
use Rattle.lp_sig.specs.declared.fault.SigFault.TheVariants as sig
use Rattle.lp_sig.specs.declared.signature.Signature.{Signature}
use Rattle.lp_syntax.specs.declared.fault.SyntaxFault.{SyntaxFault}
use Rattle.lp_syntax.specs.declared.text.ModuleText.{ModuleText}
use Rattle.lp_syntax.specs.declared.text.SignatureText.{SignatureText}
use Rattle.lp_build.specs.Meant.{IsDeclaredAt}
use Rattle.lp_module.specs.Copies.{IsProgramRefusal}
use Rattle.lp_module.specs.declared.fault.ModuleFault.{ModuleFault}
use Rattle.lp_module.specs.declared.module.Module.{Module}
use Rattle.lp_build.specs.Refused.{IsFirstModule, IsFreeFrom, IsOrderFault, of_module, of_syntax}
use Rattle.lp_build.specs.Unmade.{IsModuleFaultOf}
use Rattle.lp_build.specs.Compiled.{ArePaired, IsObjectOf}
use Rattle.lp_code.specs.declared.object.Object.{Object}
use Rattle.lp_link.specs.Refusals.{IsLinkRefusal}
use Rattle.lp_link.specs.declared.fault.LinkRefusal.{LinkRefusal}
use Rattle.lp_link.specs.declared.fault.LinkRefusal.TheVariants as link
use Rattle.lp_link.specs.declared.fault.Part.{Part}
use Rattle.lp_build.specs.declared.fault.BuildFault.{BuildFault}
use Rattle.lp_build.specs.declared.fault.BuildFault.TheVariants as fault
use Rattle.lp_build.specs.declared.sources.File.{File}
use Rattle.lp_build.specs.declared.texts.Group.{Group}

-- neither a circle nor want of memory
abbrev pub IsOther : SigFault → Type 0
IsOther sig.Memory = ⊥
IsOther (sig.CyclicSignature s) = ⊥
IsOther _ = Unit {0}

-- an answer is taken: of the faults the first one is kept
abbrev pub IsTaken : Result Signature SigFault → (old new : Option SigFault) → Type 0
IsTaken (Ok s) old new = new ≡ old
IsTaken (Err f) old new = IsOther f × (new ≡ option_or old (Some f))

-- the first of the texts below a place that is refused
pub record IsFirstBelow (g : Group SignatureText) (n : ℕ) (f : SigFault) : Type 0 where
  pub place : ℕ
  pub inside : place < n
  pub before : (p : ℕ) → p < place → (s : Signature) × IsDeclaredAt g p s
  pub refused : IsRefusedFrom g.names.items g.sources.items g.texts.items place f

-- the texts below a place were looked at
pub record AreLookedAt (g : Group SignatureText) (n : ℕ) (refused : Option SigFault) : Type 0 where
  pub free : (p : ℕ) → p < n → IsFreeFrom g p
  pub first : (f : SigFault) → refused ≡ Some f → IsFirstBelow g n f

-- want of memory, or a fault of this kind as it is told
abbrev pub IsTold : (SyntaxFault → Type 0) → BuildFault → Type 0
IsTold P e = (e ≡ fault.Memory) ⊎ ((f : SyntaxFault) × P f × (e ≡ of_syntax f))

-- want of memory, or a fault of a module as it is told
abbrev pub IsToldOf : (ModuleFault → Type 0) → BuildFault → Type 0
IsToldOf P e = (e ≡ fault.Memory) ⊎ ((f : ModuleFault) × P f × (e ≡ of_module f))

-- why modules have no meaning: want of memory, a circle, or the first one that is refused
abbrev pub IsRefusedAmong : List File → Group SignatureText → Group ModuleText → BuildFault → Type 0
IsRefusedAmong files g t e = (e ≡ fault.Memory) ⊎ (IsOrderFault t e ⊎ IsFirstModule files g t e)

-- why the module whose text is the file of a number has no meaning
abbrev pub IsRefusedOfFile : List File → Group SignatureText → Group ModuleText → (number : ℕ) → BuildFault → Type 0
IsRefusedOfFile files g t number e = (e ≡ fault.Memory) ⊎ IsModuleFaultOf files g t number e

-- how a refusal of linking is told
abbrev pub of_link : LinkRefusal → BuildFault
of_link (link.Limit l) = fault.Limit l
of_link (link.Differ number part) = fault.Memory
of_link link.Memory = fault.Memory

-- the linking of objects of modules is never refused for a name
abbrev pub NeverDiffer : List Module → Type 0
NeverDiffer modules = (os : List Object) → ArePaired IsObjectOf modules (length modules) os → (root number : ℕ) (p : Part) → IsLinkRefusal os root (link.Differ number p) → ⊥

-- why modules have no program
abbrev pub IsRefusedOf : List Module → BuildFault → Type 0
IsRefusedOf modules e = (e ≡ fault.Memory) ⊎ ((root : ℕ) × (f : ModuleFault) × (root + 1 ≡ length modules) × IsProgramRefusal modules root f × (e ≡ of_module f))
