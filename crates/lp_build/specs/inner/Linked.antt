-- What the tables of names and words hold of the files.
use Rattle.std.specs.Global.{Global}
use Rattle.std.specs.Prelude.{◌≡◌, ◌⊎◌, ℕ, List, [], ◌∷◌, ◌++◌, map, nat_eq, Option, Some, None, Result, Ok, String, Vec, length, Contains, string_bytes}
use Rattle.std.specs.Str.{bytes_eq}
use Rattle.std.specs.Map.{lookup}
use Rattle.indexmap.specs.IndexMap.{get}
use Rattle.lp_syntax.specs.declared.text.SignatureText.{SignatureText}
use Rattle.lp_sig.specs.Refusals.{IsAt}
use Rattle.lp_sig.specs.Rows.{kind_row, constant_row, abbreviation_row, fixity_row}
use Rattle.lp_sig.specs.declared.signature.Signature.{Signature}
use Rattle.lp_sig.specs.declared.fault.SigFault.{SigFault}
use Rattle.lp_build.specs.Sights.{signature_of, accum_sig_of, accumulate_of, accum_sig_at, SeesFirst, Sees}
use Rattle.lp_build.specs.Trees.{AreSignatureTexts, AreModuleTexts}
use Rattle.lp_build.specs.Meant.{IsDeclaredAt}
use Rattle.lp_build.specs.declared.links.Links.{Links}
use Rattle.lp_build.specs.declared.links.Numbers.{Numbers}
use Rattle.lp_build.specs.declared.signatures.Signatures.{Signatures}
use Rattle.lp_build.specs.declared.sources.File.{File}
use Rattle.lp_build.specs.declared.texts.Group.{Group}
use Rattle.lp_build.specs.declared.texts.Texts.{Texts}

-- what a table has at a name
unfoldable pub number_of : Numbers → List ℕ → Option ℕ
number_of n name = lookup (λ k. bytes_eq name k.items) n.numbers.entries

-- the table has the signatures among these files, each name with its first one, and no other name
abbrev pub HasSignatures : Numbers → List File → Type 0
HasSignatures n files = (name : List ℕ) → number_of n name ≡ signature_of files name

abbrev pub lists_of : List (Vec ℕ Global) → List (List ℕ)
lists_of lists = map (λ l. l.items) lists

-- the links are those of these files
pub record AreLinks (files : List File) (links : Links) : Type 0 where
  pub signatures : HasSignatures links.signatures files
  pub accum_sig : lists_of links.named.items ≡ map (accum_sig_of files) files
  pub accumulate : lists_of links.accumulated.items ≡ map (accumulate_of files) files

-- the signatures so far are what the first texts of a group declare
pub record AreMade (g : Group SignatureText) (made : List Signature) (n : ℕ) : Type 0 where
  pub count : length made ≡ n
  pub each : (place : ℕ) (s : Signature) → IsAt made place s → IsDeclaredAt g place s

-- the signatures are what the texts of a group declare, and their places are those of their numbers
pub record AreDeclared (g : Group SignatureText) (signatures : Signatures) : Type 0 where
  pub each : (place : ℕ) (s : Signature) → IsAt signatures.made.items place s → IsDeclaredAt g place s
  pub places : (number place : ℕ) → get nat_eq signatures.places number ≡ Some place → IsAt g.numbers.items place number

-- a signature has the entries of another one, and its types
pub record IsCopy (old new : Signature) : Type 0 where
  pub types : new.bank.types ≡ old.bank.types
  pub kinds : map kind_row new.kinds.items ≡ map kind_row old.kinds.items
  pub constants : map constant_row new.constants.items ≡ map constant_row old.constants.items
  pub abbreviations : map abbreviation_row new.abbreviations.items ≡ map abbreviation_row old.abbreviations.items
  pub fixities : map fixity_row new.fixities.items ≡ map fixity_row old.fixities.items

-- one signature was looked at: unless it was met before, those that it names are to be seen, and nothing else is new there
pub record IsPutBack (files : List File) (number : ℕ) (seen work after : List ℕ) : Type 0 where
  pub stays : (k : ℕ) → Contains work k → Contains after k
  pub only : (k : ℕ) → Contains after k → Contains work k ⊎ Contains (accum_sig_at files number) k
  pub closes : Contains seen number ⊎ ((k : ℕ) → Contains (accum_sig_at files number) k → Contains after k)

-- the signatures that were met and those that are to be seen are seen, and from the others none leads on
pub record IsSeenSoFar (files : List File) (file : ℕ) (name : List ℕ) (seen work : List ℕ) : Type 0 where
  pub met : (k : ℕ) → Contains seen k → Sees files file name k
  pub waiting : (k : ℕ) → Contains work k → Sees files file name k
  pub first : (k : ℕ) → SeesFirst files file name k → Contains seen k ⊎ Contains work k
  pub closed : (j k : ℕ) → Contains seen j → Contains (accum_sig_at files j) k → Contains seen k ⊎ Contains work k

-- the texts of the first files
pub record AreTextsSoFar (files : List File) (n : ℕ) (texts : Texts) : Type 0 where
  pub signatures : AreSignatureTexts files n texts.signatures
  pub modules : AreModuleTexts files n texts.modules

-- one more text stands behind those of a group
pub record IsOneMore {T : Type 0} (place : ℕ) (file : File) (text : T) (old new : Group T) : Type 0 where
  pub name : String Global
  pub source : Vec ℕ Global
  pub named : string_bytes name ≡ string_bytes file.module
  pub bytes : source.items ≡ file.text.bytes.items
  pub numbers : new.numbers.items ≡ old.numbers.items ++ place ∷ []
  pub names : new.names.items ≡ old.names.items ++ name ∷ []
  pub sources : new.sources.items ≡ old.sources.items ++ source ∷ []
  pub texts : new.texts.items ≡ old.texts.items ++ text ∷ []

-- what was answered is taken: a signature goes behind the others, unless one was refused
abbrev pub IsNoted : Result Signature SigFault → (old new : List Signature) → (refused after : Option SigFault) → Type 0
IsNoted answer old new refused after = after ≡ None → (refused ≡ None) × ((s : Signature) × (answer ≡ Ok s) × (new ≡ old ++ s ∷ []))
