-- What the loading of files comes to.
use Rattle.std.specs.Prelude.{◌≡◌, ℕ, ◌<◌, List, [], ◌∷◌, ◌++◌, length, map, codes, Option, Some, None, Result, Ok, Err, string_bytes}
use Rattle.lp_base.specs.declared.limits.TheConstants.{MAX_NAME_BYTES}
use Rattle.lp_base.specs.Counts.{Counts}
use Rattle.lp_base.specs.Held.{Held}
use Rattle.lp_base.specs.declared.limit.Limit.TheVariants as limit
use Rattle.lp_base.specs.declared.place.Spot.{Spot}
use Rattle.lp_lexer.specs.declared.token.LexFault.{LexFault}
use Rattle.lp_lexer.specs.declared.token.LexFault.TheVariants as lex
use Rattle.lp_sig.specs.Pieces.{spelled}
use Rattle.lp_build.specs.declared.fault.BuildFault.{BuildFault}
use Rattle.lp_build.specs.declared.fault.BuildFault.TheVariants as fault
use Rattle.lp_build.specs.declared.sources.File.{File}
use Rattle.lp_build.specs.declared.sources.Part.{Part}
use Rattle.lp_build.specs.declared.sources.Part.TheVariants as part

-- the fault of a refusal
abbrev pub fault_of : {T : Type 0} → Result T BuildFault → Option BuildFault
fault_of (Ok x) = None
fault_of (Err e) = Some e

-- the fault of a refusal, beside what was loaded
abbrev pub fault_beside : {S T : Type 0} → Result T (S × BuildFault) → Option BuildFault
fault_beside (Ok x) = None
fault_beside (Err e) = Some e.1

abbrev pub IsRead : Option BuildFault → Type 0
IsRead (Some (fault.Read n)) = Unit {0}
IsRead _ = ⊥

abbrev pub IsMissing : Option BuildFault → Type 0
IsMissing (Some (fault.Missing n)) = Unit {0}
IsMissing _ = ⊥

abbrev pub IsLongFile : Option BuildFault → Type 0
IsLongFile (Some (fault.Limit limit.File)) = Unit {0}
IsLongFile _ = ⊥

-- a fault of reading, a missing file and a long one each come only with a count that rose, and these counts rise in no other answer; nothing that is
-- held changes
pub record Outside {F : Type 0} (read_faults misses overs write_faults : F → ℕ) (held : F → Option Held) (old new : F) (refused : Option BuildFault) : Type 0 where
  pub read : Counts (IsRead refused) (read_faults old) (read_faults new)
  pub missing : Counts (IsMissing refused) (misses old) (misses new)
  pub long : Counts (IsLongFile refused) (overs old) (overs new)
  pub unwritten : write_faults new ≡ write_faults old
  pub same : held new ≡ held old

-- a fault of tokens itself
abbrev pub IsOfTokens : LexFault → Type 0
IsOfTokens lex.Memory = ⊥
IsOfTokens _ = Unit {0}

-- why a file was not read
abbrev pub IsOfRead : ℕ → BuildFault → Type 0
IsOfRead n (fault.Read k) = n ≡ k
IsOfRead n (fault.Missing k) = n ≡ k
IsOfRead n (fault.Limit limit.File) = Unit {0}
IsOfRead n fault.Memory = Unit {0}
IsOfRead n _ = ⊥

-- why the bytes of a file were not taken in
abbrev pub IsOfText : ℕ → BuildFault → Type 0
IsOfText n (fault.Lex k e) = (n ≡ k) × IsOfTokens e
IsOfText n fault.Memory = Unit {0}
IsOfText n _ = ⊥

-- why a file was not taken in
abbrev pub IsOfReading : ℕ → BuildFault → Type 0
IsOfReading n (fault.Read k) = n ≡ k
IsOfReading n (fault.Missing k) = n ≡ k
IsOfReading n (fault.Lex k e) = (n ≡ k) × IsOfTokens e
IsOfReading n (fault.Limit limit.File) = Unit {0}
IsOfReading n fault.Memory = Unit {0}
IsOfReading n _ = ⊥

-- why a word names no file
abbrev pub IsOfName : BuildFault → Type 0
IsOfName (fault.Limit limit.NameLength) = Unit {0}
IsOfName fault.Memory = Unit {0}
IsOfName _ = ⊥

-- a word of a text is longer than a name, where that is the fault
abbrev pub IsOfWord : (text : List ℕ) → Spot → BuildFault → Type 0
IsOfWord text w (fault.Limit limit.NameLength) = MAX_NAME_BYTES < length (spelled text w)
IsOfWord text w fault.Memory = Unit {0}
IsOfWord text w _ = ⊥

-- the ending of a file's name
abbrev pub ending : Part → List ℕ
ending part.Signature = codes ".sig"
ending part.Module = codes ".mod"

abbrev pub names_of : List File → List (List ℕ)
names_of files = map (λ f. string_bytes f.name) files

-- the name of a file's module, where the file is one
abbrev pub of_module : Part → (name : List ℕ) → List (List ℕ)
of_module part.Signature name = []
of_module part.Module name = name ∷ []

-- the names of the modules among these files, in order
abbrev pub modules_among : List File → List (List ℕ)
modules_among [] = []
modules_among (f ∷ fs) = of_module f.part (string_bytes f.module) ++ modules_among fs

-- the first of these names
abbrev pub BeginsWith : List ℕ → List (List ℕ) → Type 0
BeginsWith name [] = ⊥
BeginsWith name (n ∷ ns) = n ≡ name
