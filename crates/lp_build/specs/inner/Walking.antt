-- What is loaded so far, and what is still to be loaded.
use Rattle.std.specs.Global.{Global}
use Rattle.std.specs.Prelude.{◌≡◌, ◌≤◌, ◌<◌, ℕ, Bool, List, [], ◌∷◌, ◌++◌, None, Option, IfSome, MatchOption, String, drop, length, string_bytes}
use Rattle.lp_base.specs.declared.limit.Limit.TheVariants as limit
use Rattle.lp_base.specs.declared.limits.TheConstants.{MAX_MODULES, MAX_NAME_BYTES}
use Rattle.lp_base.specs.declared.place.Spot.{Spot}
use Rattle.lp_sig.specs.Pieces.{spelled}
use Rattle.lp_sig.specs.Refusals.{IsAt}
use Rattle.lp_sig.specs.Sights.{HasKeys}
use Rattle.lp_build.specs.Loads.{IsOfTokens, IsOfWord, names_of}
use Rattle.lp_build.specs.Ordered.{IsText, Loads, Need, accumulated, asked_by, both, file_of, needed, signature}
use Rattle.lp_build.specs.declared.fault.BuildFault.{BuildFault}
use Rattle.lp_build.specs.declared.fault.BuildFault.TheVariants as fault
use Rattle.lp_build.specs.declared.sources.File.{File}
use Rattle.lp_build.specs.declared.sources.Part.TheVariants as part
use Rattle.lp_build.specs.declared.sources.Sources.{Sources}
use Rattle.lp_build.specs.declared.walk.Loading.{Loading}
use Rattle.lp_build.specs.declared.walk.Work.{Work}
use Rattle.lp_build.specs.declared.walk.Work.TheVariants as work

-- a text is loaded as the file of a number, which is the last one
pub record IsLoadedAt (n : Need) (old new : Sources) (number : ℕ) : Type 0 where
  pub file : File
  pub is : IsText n file
  pub last : number ≡ length old.files.items
  pub files : new.files.items ≡ old.files.items ++ file ∷ []
  pub refused : new.refused ≡ old.refused

-- why a file was not taken in behind these
abbrev pub IsOfFile : List File → BuildFault → Type 0
IsOfFile files (fault.Read k) = (length files < MAX_MODULES) × (length files ≡ k)
IsOfFile files (fault.Missing k) = (length files < MAX_MODULES) × (length files ≡ k)
IsOfFile files (fault.Lex k e) = (length files < MAX_MODULES) × (length files ≡ k) × IsOfTokens e
IsOfFile files (fault.Limit limit.File) = length files < MAX_MODULES
IsOfFile files (fault.Limit limit.Modules) = MAX_MODULES ≤ length files
IsOfFile files fault.Memory = Unit {0}
IsOfFile files _ = ⊥

-- it is not, for this fault, and at fault is none or its file
pub record IsNotLoaded (n : Need) (old new : Sources) (e : BuildFault) : Type 0 where
  pub files : new.files.items ≡ old.files.items
  pub fault : IsOfFile old.files.items e
  pub file : IfSome new.refused (λ name. old.refused ≡ None → string_bytes name ≡ file_of n)

-- the word of a place, where there is one, is no longer than a name
abbrev pub IsWordAt : (text : List ℕ) → List Spot → (at : ℕ) → Option (String Global) → Type 0
IsWordAt text words at found = MatchOption found (length words ≤ at) (λ name. (w : Spot) × IsAt words at w × (string_bytes name ≡ spelled text w) × (length (string_bytes name) ≤ MAX_NAME_BYTES))

-- it names no file
abbrev pub IsNoName : (text : List ℕ) → List Spot → (at : ℕ) → BuildFault → Type 0
IsNoName text words at e = (w : Spot) × IsAt words at w × IsOfWord text w e

-- what a piece of work asks for
abbrev pub IsOwed : (all : Bool) → List File → Work → List Need → Type 0
IsOwed all files (work.Signatures number at) needs = (f : File) × IsAt files number f × (needs ≡ asked_by signature f.text.bytes.items (drop at f.text.references.accum_sig.items))
IsOwed all files (work.Module name) needs = needs ≡ needed part.Module (string_bytes name) ∷ []
IsOwed all files (work.Accumulated number at) needs = (f : File) × IsAt files number f × (needs ≡ asked_by (accumulated all) f.text.bytes.items (drop at f.text.references.accumulate.items))

-- what pieces of work ask for, the last one first
abbrev pub AreOwed : (all : Bool) → List File → List Work → List Need → Type 0
AreOwed all files [] needs = needs ≡ []
AreOwed all files (w ∷ ws) needs = (above mine : List Need) × AreOwed all files ws above × IsOwed all files w mine × (needs ≡ above ++ mine)

-- the files so far are a beginning of the order of a root: these texts are needed next, and then what waits; none was at fault
pub record IsWalk (all : Bool) (root : List ℕ) (next : List Need) (l : Loading) : Type 0 where
  pub is : l.all ≡ all
  pub left : List Need
  pub order : Loads all [] (both root) l.sources.files.items (next ++ left)
  pub owed : AreOwed all l.sources.files.items l.work.items left
  pub names : HasKeys l.names (names_of l.sources.files.items)
  pub none : l.sources.refused ≡ None
