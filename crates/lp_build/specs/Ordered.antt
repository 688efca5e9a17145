-- The order in which the files of a module are loaded: its signature and then its own file, and right behind each file what it names.
use Rattle.std.specs.Global.{Global}
use Rattle.std.specs.Prelude.{◌≡◌, ◌⊎◌, ◌<◌, ◌≤◌, ℕ, List, [], ◌∷◌, ◌++◌, Bool, true, false, Contains, IfSome, String, length, string_bytes}
use Rattle.lp_base.specs.declared.limit.Limit.{Limit}
use Rattle.lp_base.specs.declared.limit.Limit.TheVariants as limit
use Rattle.lp_base.specs.declared.limits.TheConstants.{MAX_MODULES, MAX_NAME_BYTES}
use Rattle.lp_base.specs.declared.place.Spot.{Spot}
use Rattle.lp_sig.specs.Pieces.{spelled}
use Rattle.lp_build.specs.Loads.{IsOfTokens, ending, names_of}
use Rattle.lp_build.specs.declared.fault.BuildFault.{BuildFault}
use Rattle.lp_build.specs.declared.fault.BuildFault.TheVariants as fault
use Rattle.lp_build.specs.declared.sources.File.{File}
use Rattle.lp_build.specs.declared.sources.Part.{Part}
use Rattle.lp_build.specs.declared.sources.Part.TheVariants as part
use Rattle.lp_build.specs.declared.sources.Sources.{Sources}
use Rattle.lp_build.specs.declared.sources.Text.{Text}

-- one of the two texts of the module of a name, which is to be loaded, and whether a word is what asks for it
pub record Need : Type 0 where
  pub word : Bool
  pub part : Part
  pub name : List ℕ

abbrev pub asked : (word : Bool) → Part → (name : List ℕ) → Need
asked word p name = record { word = word; part = p; name = name }

-- the root asks for it, or it is a module's own file, behind the signature
abbrev pub needed : Part → (name : List ℕ) → Need
needed p name = asked false p name

-- the name of its file
abbrev pub file_of : Need → List ℕ
file_of n = n.name ++ ending n.part

-- the signature that a word names
abbrev pub signature : (name : List ℕ) → List Need
signature name = asked true part.Signature name ∷ []

-- both texts of the root, the signature first
abbrev pub both : (name : List ℕ) → List Need
both name = needed part.Signature name ∷ needed part.Module name ∷ []

-- a module that another one accumulates: the signature alone where not all is loaded
abbrev pub accumulated : (all : Bool) → (name : List ℕ) → List Need
accumulated true name = asked true part.Signature name ∷ needed part.Module name ∷ []
accumulated false name = signature name

-- what words of a text ask for, in order
abbrev pub asked_by : (List ℕ → List Need) → (text : List ℕ) → List Spot → List Need
asked_by ask text [] = []
asked_by ask text (w ∷ ws) = ask (spelled text w) ++ asked_by ask text ws

-- what a file names: the signatures of its accum_sigs, and behind them, where it is a module's own, the modules that it accumulates
abbrev pub named_by : (all : Bool) → Part → Text → List Need
named_by all part.Signature t = asked_by signature t.bytes.items t.references.accum_sig.items
named_by all part.Module t = asked_by signature t.bytes.items t.references.accum_sig.items ++ asked_by (accumulated all) t.bytes.items t.references.accumulate.items

-- a file is this text
pub record IsText (n : Need) (f : File) : Type 0 where
  pub part : f.part ≡ n.part
  pub stem : string_bytes f.module ≡ n.name
  pub name : string_bytes f.name ≡ file_of n

-- a text stands among these files
abbrev pub IsThere : List File → Need → Type 0
IsThere files n = Contains (names_of files) (file_of n)

-- the word that asks for it is longer than a name
abbrev pub IsTooLong : Need → Type 0
IsTooLong n = (n.word ≡ true) × (MAX_NAME_BYTES < length n.name)

-- behind the files before, where these texts are needed in this order, these files are loaded, and then the texts that are left are needed: no word is too
-- long, a text that is there is not loaded again, and what a file names is needed right behind it, before all else
pub data Loads (all : Bool) : (before : List File) → (needs : List Need) → (files : List File) → (left : List Need) → Type 0 where
  loads_none : {before : List File} {needs : List Need} → Loads all before needs [] needs
  is_there : {before : List File} {n : Need} {needs left : List Need} {files : List File} → (IsTooLong n → ⊥) → IsThere before n → Loads all before needs files left → Loads all before (n ∷ needs) files left
  is_loaded : {before : List File} {n : Need} {f : File} {needs left : List Need} {files : List File} → (IsTooLong n → ⊥) → (IsThere before n → ⊥) → IsText n f →
      Loads all (before ++ f ∷ []) (named_by all f.part f.text ++ needs) files left → Loads all before (n ∷ needs) (f ∷ files) left

-- these are the files of a module and of all that it needs, in order: none that one of them names is left out, and none stands twice
abbrev pub AreInOrder : (all : Bool) → (root : List ℕ) → Sources → Type 0
AreInOrder all root sources = Loads all [] (both root) sources.files.items []

-- a text is to be loaded behind these files
abbrev pub IsDue : List File → Need → Type 0
IsDue files n = (IsTooLong n → ⊥) × (IsThere files n → ⊥)

-- and there is room for one more
abbrev pub IsNext : List File → Need → Type 0
IsNext files n = IsDue files n × (length files < MAX_MODULES)

-- the limits that are counted at a text: first of its word, then of the files, then of its own bytes
abbrev pub IsLimitAt : List File → Need → Limit → Type 0
IsLimitAt files n limit.NameLength = IsTooLong n
IsLimitAt files n limit.Modules = IsDue files n × (MAX_MODULES ≤ length files)
IsLimitAt files n limit.File = IsNext files n
IsLimitAt files n _ = ⊥

-- why a text is not loaded behind these files
abbrev pub IsRefusedAt : List File → Need → BuildFault → Type 0
IsRefusedAt files n (fault.Read k) = IsNext files n × (length files ≡ k)
IsRefusedAt files n (fault.Missing k) = IsNext files n × (length files ≡ k)
IsRefusedAt files n (fault.Lex k e) = IsNext files n × (length files ≡ k) × IsOfTokens e
IsRefusedAt files n (fault.Syntax e) = ⊥
IsRefusedAt files n (fault.Sig e) = ⊥
IsRefusedAt files n (fault.Module e) = ⊥
IsRefusedAt files n (fault.Limit l) = IsLimitAt files n l
IsRefusedAt files n fault.Memory = Unit {0}

-- why no more than these files are loaded, where these texts are needed: the fault is that of the first one
abbrev pub IsOfLoading : List File → List Need → BuildFault → Type 0
IsOfLoading files (n ∷ left) e = IsRefusedAt files n e
IsOfLoading files [] fault.Memory = Unit {0}
IsOfLoading files [] _ = ⊥

-- a file of this name is the first one
abbrev pub IsFileOf : List Need → String Global → Type 0
IsFileOf [] name = ⊥
IsFileOf (n ∷ left) name = string_bytes name ≡ file_of n

-- these are a beginning of that order, the fault is that of the next text, and the file at fault, where there is one, is its own
pub record AreInOrderSoFar (all : Bool) (root : List ℕ) (sources : Sources) (e : BuildFault) : Type 0 where
  pub left : List Need
  pub order : Loads all [] (both root) sources.files.items left
  pub fault : IsOfLoading sources.files.items left e
  pub file : IfSome sources.refused (IsFileOf left)

-- the module of the root or one of these files asks for a text
abbrev pub IsAsked : (all : Bool) → (root : List ℕ) → List File → Need → Type 0
IsAsked all root files n = Contains (both root) n ⊎ (f : File) × Contains files f × Contains (named_by all f.part f.text) n
