-- What the texts of files mean: their signatures, and their modules.
use Rattle.std.specs.Prelude.{◌≡◌, ℕ, List, [], ◌∷◌, ◌++◌, length, map, String, Vec, Some, string_bytes}
use Rattle.std.specs.Global.{Global}
use Rattle.lp_syntax.specs.declared.text.ModuleText.{ModuleText}
use Rattle.lp_syntax.specs.declared.text.SignatureText.{SignatureText}
use Rattle.lp_sig.specs.AsWritten.{DeclaresAsWritten}
use Rattle.lp_sig.specs.Refusals.{IsAt, IsAccepted}
use Rattle.lp_sig.specs.Rows.{kind_row, fixity_row}
use Rattle.lp_sig.specs.declared.signature.Signature.{Signature}
use Rattle.lp_module.specs.Meaning.{IsMeaning}
use Rattle.lp_module.specs.Order.{Visits}
use Rattle.lp_module.specs.Words.{all_ways}
use Rattle.lp_module.specs.declared.module.Module.{Module}
use Rattle.lp_build.specs.Sights.{signature_of, accum_sig_at, accumulate_at}
use Rattle.lp_build.specs.Trees.{AreSignatureTexts, AreModuleTexts}
use Rattle.lp_build.specs.declared.sources.File.{File}
use Rattle.lp_build.specs.declared.sources.Sources.{Sources}
use Rattle.lp_build.specs.declared.texts.Group.{Group}

-- a signature is what the text at a place of a group of signatures declares, by the rules of lp_sig
abbrev pub IsDeclaredAt : Group SignatureText → (place : ℕ) → Signature → Type 0
IsDeclaredAt g place s = IsAccepted g.names.items g.sources.items g.texts.items place (map kind_row s.kinds.items) (map fixity_row s.fixities.items) s.bank s.abbreviations.items s.constants.items

-- it is what the file of a number declares
pub record IsSignatureOf (g : Group SignatureText) (number : ℕ) (s : Signature) : Type 0 where
  pub place : ℕ
  pub there : IsAt g.numbers.items place number
  pub declared : IsDeclaredAt g place s

-- these are what the files of these numbers declare, in order
pub data AreSignaturesOf (g : Group SignatureText) : List ℕ → List Signature → Type 0 where
  no_signature : AreSignaturesOf g [] []
  one_signature : (ns all_ns : List ℕ) (ss all_ss : List Signature) (n : ℕ) (s : Signature) → AreSignaturesOf g ns ss → IsSignatureOf g n s → all_ns ≡ ns ++ n ∷ [] → all_ss ≡ ss ++ s ∷ [] → AreSignaturesOf g all_ns all_ss

-- a module's own signature is that of its name
pub record IsOwnSignature (files : List File) (g : Group SignatureText) (name : List ℕ) (own : Signature) : Type 0 where
  pub number : ℕ
  pub first : signature_of files name ≡ Some number
  pub is : IsSignatureOf g number own

-- a module is what the text at a place of a group of modules means, over its own signature, those that it names by accum_sig and those of the modules
-- that it accumulates
pub record IsModuleAt (files : List File) (g : Group SignatureText) (t : Group ModuleText) (place : ℕ) (m : Module) : Type 0 where
  pub number : ℕ
  pub name : String Global
  pub source : Vec ℕ Global
  pub text : ModuleText
  pub own : Signature
  pub used : List Signature
  pub at_number : IsAt t.numbers.items place number
  pub at_name : IsAt t.names.items place name
  pub at_source : IsAt t.sources.items place source
  pub at_text : IsAt t.texts.items place text
  pub own_is : IsOwnSignature files g (string_bytes name) own
  pub used_are : AreSignaturesOf g (accum_sig_at files number ++ accumulate_at files number) used
  pub meaning : IsMeaning source.items text (string_bytes name) own used m

-- these are what the texts at these places mean, in order
pub data AreModulesAt (files : List File) (g : Group SignatureText) (t : Group ModuleText) : List ℕ → List Module → Type 0 where
  no_module : AreModulesAt files g t [] []
  one_module : (ps all_ps : List ℕ) (ms all_ms : List Module) (p : ℕ) (m : Module) → AreModulesAt files g t ps ms → IsModuleAt files g t p m → all_ps ≡ ps ++ p ∷ [] → all_ms ≡ ms ++ m ∷ [] → AreModulesAt files g t all_ps all_ms

-- The modules that the first module of a group leads to by accumulate, each once: the accumulated ones first, that one last.
pub record AreModulesOf (files : List File) (g : Group SignatureText) (t : Group ModuleText) (modules : List Module) : Type 0 where
  pub order : List ℕ
  pub walk : Visits (all_ways (map string_bytes t.names.items) t.sources.items t.texts.items) [] (0 ∷ []) order
  pub before : List ℕ
  pub last : order ≡ before ++ 0 ∷ []
  pub meanings : AreModulesAt files g t order modules

-- The modules of a set of files: of each file its one tree, of each signature what it declares, and what the modules mean to which the first one among
-- the files leads.
pub record AreModules (sources : Sources) (modules : List Module) : Type 0 where
  pub signatures : Group SignatureText
  pub texts : Group ModuleText
  pub signature_texts : AreSignatureTexts sources.files.items (length sources.files.items) signatures
  pub module_texts : AreModuleTexts sources.files.items (length sources.files.items) texts
  pub meanings : AreModulesOf sources.files.items signatures texts modules

-- a module is what the text at some place means, and has the types and bodies that are written there
pub record IsAsWritten (files : List File) (g : Group SignatureText) (t : Group ModuleText) (m : Module) : Type 0 where
  pub place : ℕ
  pub is : IsModuleAt files g t place m
  pub declared : DeclaresAsWritten is.own is.used is.source.items is.text.lines.items m.signature
