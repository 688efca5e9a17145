-- Why texts that were read have no program: the first of their faults, layer by layer. Want of memory alone is free.
use Rattle.std.specs.Prelude.{◌≡◌, ◌⊎◌, ℕ, ◌+◌, ◌<◌, List, [], ◌∷◌, ◌++◌, map, length, String, Vec, string_bytes}
use Rattle.std.specs.Global.{Global}
use Rattle.lp_base.specs.declared.place.Spot.{Spot}
use Rattle.lp_fixity.specs.declared.fault.FixFault.{FixFault}
use Rattle.lp_fixity.specs.declared.fault.FixFault.TheVariants as fix
use Rattle.lp_syntax.specs.Modules.{IsFixFault, IsModuleRefusal}
use Rattle.lp_syntax.specs.Signatures.{IsSignatureRefusal}
use Rattle.lp_syntax.specs.Tokens.{Operators, lexemes, spot_at}
use Rattle.lp_syntax.specs.declared.fault.SyntaxFault.{SyntaxFault}
use Rattle.lp_syntax.specs.declared.fault.SyntaxFault.TheVariants as syntax
use Rattle.lp_syntax.specs.declared.text.FixityLine.{FixityLine}
use Rattle.lp_syntax.specs.declared.text.ModuleText.{ModuleText}
use Rattle.lp_syntax.specs.declared.text.SignatureText.{SignatureText}
use Rattle.lp_sig.specs.Pieces.{spelled}
use Rattle.lp_sig.specs.Refusals.{IsAt, IsCircleFrom, IsRefusedFrom}
use Rattle.lp_sig.specs.declared.fault.SigFault.{SigFault}
use Rattle.lp_sig.specs.declared.fault.SigFault.TheVariants as sig
use Rattle.lp_sig.specs.declared.signature.Signature.{Signature}
use Rattle.lp_infer.specs.declared.fault.InferFault.TheVariants as infer
use Rattle.lp_module.specs.Copies.{IsProgramRefusal}
use Rattle.lp_module.specs.Order.{Visits}
use Rattle.lp_module.specs.Program.{IsProgram}
use Rattle.lp_module.specs.Refusals.{IsOrderRefusal, IsRefusal as IsModuleRefused}
use Rattle.lp_module.specs.Words.{all_ways}
use Rattle.lp_module.specs.declared.copies.Assembled.{Assembled}
use Rattle.lp_module.specs.declared.fault.ModuleFault.{ModuleFault}
use Rattle.lp_module.specs.declared.fault.ModuleFault.TheVariants as modules
use Rattle.lp_module.specs.declared.module.Module.{Module}
use Rattle.lp_build.specs.Meant.{AreModules, AreModulesAt, AreSignaturesOf, IsDeclaredAt, IsOwnSignature}
use Rattle.lp_build.specs.Sights.{DeclareAll, InForce, Sees, accum_sig_at, accumulate_at}
use Rattle.lp_build.specs.Trees.{AreModuleTexts, AreSignatureTexts}
use Rattle.lp_build.specs.Uncoded.{IsFirstUncoded}
use Rattle.lp_build.specs.declared.fault.BuildFault.{BuildFault}
use Rattle.lp_build.specs.declared.fault.BuildFault.TheVariants as fault
use Rattle.lp_build.specs.declared.sources.File.{File}
use Rattle.lp_build.specs.declared.sources.Part.TheVariants as part
use Rattle.lp_build.specs.declared.sources.Sources.{Sources}
use Rattle.lp_build.specs.declared.texts.Group.{Group}

-- how the faults of the layers are told: a limit and want of memory by their own names

abbrev pub of_syntax : SyntaxFault → BuildFault
of_syntax syntax.Memory = fault.Memory
of_syntax (syntax.Limit l) = fault.Limit l
of_syntax (syntax.Operator fix.Memory s) = fault.Memory
of_syntax (syntax.Operator (fix.TooHigh n) s) = fault.Syntax (syntax.Operator (fix.TooHigh n) s)
of_syntax (syntax.Operator fix.Otherwise s) = fault.Syntax (syntax.Operator fix.Otherwise s)
of_syntax (syntax.Unexpected s) = fault.Syntax (syntax.Unexpected s)
of_syntax (syntax.Ambiguous s) = fault.Syntax (syntax.Ambiguous s)
of_syntax (syntax.Unclosed s) = fault.Syntax (syntax.Unclosed s)
of_syntax (syntax.Unsupported s) = fault.Syntax (syntax.Unsupported s)

abbrev pub of_signature : SigFault → BuildFault
of_signature sig.Memory = fault.Memory
of_signature (sig.Limit l) = fault.Limit l
of_signature (sig.UnknownKind s) = fault.Sig (sig.UnknownKind s)
of_signature (sig.Arity s) = fault.Sig (sig.Arity s)
of_signature (sig.Differ s) = fault.Sig (sig.Differ s)
of_signature (sig.CyclicAbbreviation s) = fault.Sig (sig.CyclicAbbreviation s)
of_signature (sig.CyclicSignature s) = fault.Sig (sig.CyclicSignature s)
of_signature (sig.Header s) = fault.Sig (sig.Header s)

abbrev pub of_module : ModuleFault → BuildFault
of_module modules.Memory = fault.Memory
of_module (modules.Sig sig.Memory) = fault.Memory
of_module (modules.Infer infer.Memory) = fault.Memory
of_module (modules.Limit l) = fault.Limit l
of_module (modules.Sig (sig.Limit l)) = fault.Limit l
of_module e = fault.Module e

-- texts

-- the operator of a sentence cannot be declared
abbrev pub IsLineFault : Operators → (text : List ℕ) → FixityLine → SyntaxFault → Type 0
IsLineFault ops text line e = (c : FixFault) × IsFixFault ops (spelled text line.name) (line.fixity, line.number) c × (e ≡ syntax.Operator c line.name)

-- one of a file cannot, behind those of the sentences before it
pub record IsFileFault (ops : Operators) (f : File) (e : SyntaxFault) : Type 0 where
  pub front : List FixityLine
  pub line : FixityLine
  pub back : List FixityLine
  pub now : Operators
  pub lines : f.text.references.fixities.items ≡ front ++ line ∷ back
  pub declared : DeclareAll f.text.bytes.items ops front now
  pub refused : IsLineFault now f.text.bytes.items line e

-- one of a signature that is seen cannot, behind those of the files before it
pub record IsUndeclarable (files : List File) (IsSeen : ℕ → Type 0) (e : SyntaxFault) : Type 0 where
  pub k : ℕ
  pub file : File
  pub ops : Operators
  pub at : IsAt files k file
  pub seen : IsSeen k
  pub force : InForce files IsSeen k ops
  pub refused : IsFileFault ops file e

-- a text is no signature, or no module under the operators of the signatures that it sees
pub data IsTextRefused (files : List File) (n : ℕ) (f : File) (e : SyntaxFault) : Type 0 where
  no_signature : f.part ≡ part.Signature → IsSignatureRefusal (spot_at n f.text.bytes.items f.text.tokens.items) (lexemes f.text.bytes.items f.text.tokens.items) e → IsTextRefused files n f e
  no_operators : f.part ≡ part.Module → IsUndeclarable files (Sees files n (string_bytes f.module)) e → IsTextRefused files n f e
  no_module : f.part ≡ part.Module → (before : Operators) → InForce files (Sees files n (string_bytes f.module)) (length files) before →
      IsModuleRefusal (spot_at n f.text.bytes.items f.text.tokens.items) before (lexemes f.text.bytes.items f.text.tokens.items) e → IsTextRefused files n f e

-- the first file in load order whose text is refused
pub record IsFirstText (files : List File) (e : BuildFault) : Type 0 where
  pub n : ℕ
  pub file : File
  pub signatures : Group SignatureText
  pub texts : Group ModuleText
  pub cause : SyntaxFault
  pub signatures_before : AreSignatureTexts files n signatures
  pub modules_before : AreModuleTexts files n texts
  pub at : IsAt files n file
  pub refused : IsTextRefused files n file cause
  pub is : e ≡ of_syntax cause

-- signatures

-- no word of accum_sig leads back to its signature, on the ways from a text: it is declared, or refused for another fault
abbrev pub IsFreeFrom : Group SignatureText → (place : ℕ) → Type 0
IsFreeFrom g place = ((s : Signature) × IsDeclaredAt g place s) ⊎ ((f : SigFault) × IsRefusedFrom g.names.items g.sources.items g.texts.items place f)

-- a circle goes before all other faults; the first one in load order
pub record IsFirstCircle (g : Group SignatureText) (e : BuildFault) : Type 0 where
  pub place : ℕ
  pub word : Spot
  pub inside : place < length g.texts.items
  pub circle : IsCircleFrom g.names.items g.sources.items g.texts.items place word
  pub before : (p : ℕ) → p < place → IsFreeFrom g p
  pub is : e ≡ fault.Sig (sig.CyclicSignature word)

-- else the first signature in load order that is refused
pub record IsFirstSignature (g : Group SignatureText) (e : BuildFault) : Type 0 where
  pub place : ℕ
  pub cause : SigFault
  pub inside : place < length g.texts.items
  pub free : (p : ℕ) → p < length g.texts.items → IsFreeFrom g p
  pub before : (p : ℕ) → p < place → (s : Signature) × IsDeclaredAt g p s
  pub refused : IsRefusedFrom g.names.items g.sources.items g.texts.items place cause
  pub is : e ≡ of_signature cause

-- why not all signatures are declared
pub data IsSignaturesFault (g : Group SignatureText) (e : BuildFault) : Type 0 where
  a_circle : IsFirstCircle g e → IsSignaturesFault g e
  a_signature : IsFirstSignature g e → IsSignaturesFault g e
  wanting : e ≡ fault.Memory → IsSignaturesFault g e

-- modules

-- the module at a place is refused, over its own signature, those that it names by accum_sig and those of the modules that it accumulates
pub record IsModuleFault (files : List File) (g : Group SignatureText) (t : Group ModuleText) (place : ℕ) (e : ModuleFault) : Type 0 where
  pub number : ℕ
  pub name : String Global
  pub source : Vec ℕ Global
  pub text : ModuleText
  pub own : Signature
  pub used : List Signature
  pub at_number : IsAt t.numbers.items place number
  pub at_name : IsAt t.names.items place name
  pub at_source : IsAt t.sources.items place source
  pub at_text : IsAt t.texts.items place text
  pub own_is : IsOwnSignature files g (string_bytes name) own
  pub used_are : AreSignaturesOf g (accum_sig_at files number ++ accumulate_at files number) used
  pub refused : IsModuleRefused source.items text (string_bytes name) own used e

-- the ways of accumulate between the modules
abbrev pub IsOrderFault : Group ModuleText → BuildFault → Type 0
IsOrderFault t e = (f : ModuleFault) × IsOrderRefusal (all_ways (map string_bytes t.names.items) t.sources.items t.texts.items) f × (e ≡ of_module f)

-- the first module in the order of the walk that is refused
pub record IsFirstModule (files : List File) (g : Group SignatureText) (t : Group ModuleText) (e : BuildFault) : Type 0 where
  pub order : List ℕ
  pub front : List ℕ
  pub place : ℕ
  pub back : List ℕ
  pub before : List Module
  pub cause : ModuleFault
  pub walk : Visits (all_ways (map string_bytes t.names.items) t.sources.items t.texts.items) [] (0 ∷ []) order
  pub split : order ≡ front ++ place ∷ back
  pub meanings : AreModulesAt files g t front before
  pub refused : IsModuleFault files g t place cause
  pub is : e ≡ of_module cause

-- the texts of all files, as groups, where each has its tree
pub record AreWhole (sources : Sources) (g : Group SignatureText) (t : Group ModuleText) : Type 0 where
  pub signatures : AreSignatureTexts sources.files.items (length sources.files.items) g
  pub modules : AreModuleTexts sources.files.items (length sources.files.items) t

-- each signature is declared
abbrev pub AreAllDeclared : Group SignatureText → Type 0
AreAllDeclared g = (p : ℕ) → p < length g.texts.items → (s : Signature) × IsDeclaredAt g p s

-- Why the files have no texts with signatures that are declared: each layer has its fault where those before it have none.
pub data IsRefusedWhole (sources : Sources) (e : BuildFault) : Type 0 where
  of_text : IsFirstText sources.files.items e → IsRefusedWhole sources e
  of_signatures : (g : Group SignatureText) (t : Group ModuleText) → AreWhole sources g t → IsSignaturesFault g e → IsRefusedWhole sources e
  no_memory : e ≡ fault.Memory → IsRefusedWhole sources e

-- why they have no modules: that, or a circle of accumulate, or else the first module in the order of the walk that is refused
pub data IsRefusedModules (sources : Sources) (e : BuildFault) : Type 0 where
  of_whole : IsRefusedWhole sources e → IsRefusedModules sources e
  of_order : (g : Group SignatureText) (t : Group ModuleText) → AreWhole sources g t → AreAllDeclared g → IsOrderFault t e → IsRefusedModules sources e
  of_meaning : (g : Group SignatureText) (t : Group ModuleText) → AreWhole sources g t → AreAllDeclared g → IsFirstModule sources.files.items g t e → IsRefusedModules sources e

-- Why they have no program: they have no modules, or the program of all modules, the root last, passes a limit, or else one of the modules has no code.
pub data IsRefusedProgram (sources : Sources) (e : BuildFault) : Type 0 where
  of_modules : IsRefusedModules sources e → IsRefusedProgram sources e
  of_program : (all : List Module) (root : ℕ) (f : ModuleFault) → AreModules sources all → root + 1 ≡ length all → IsProgramRefusal all root f → e ≡ of_module f → IsRefusedProgram sources e
  of_codes : (all : List Module) (root : ℕ) (a : Assembled) → AreModules sources all → root + 1 ≡ length all → IsProgram all root a → IsFirstUncoded all e → IsRefusedProgram sources e
