-- What is loaded is what the folder tells.
use Rattle.std.specs.Global.{Global}
use Rattle.std.specs.Prelude.{◌≡◌, ℕ, List, Option, Some, None, Vec, String, IfSome, string_bytes}
use Rattle.std.specs.List.{All}
use Rattle.lp_base.specs.Held.{Held}
use Rattle.lp_base.specs.Read.{IsLonger}
use Rattle.lp_base.specs.declared.limit.Limit.TheVariants as limit
use Rattle.lp_base.specs.declared.limits.TheConstants.{MAX_FILE_BYTES}
use Rattle.lp_lexer.specs.Lexis.{HasFault}
use Rattle.lp_build.specs.declared.fault.BuildFault.{BuildFault}
use Rattle.lp_build.specs.declared.fault.BuildFault.TheVariants as fault
use Rattle.lp_build.specs.declared.sources.Sources.{Sources}

-- these bytes stand under a name, where the folder tells what it holds
abbrev pub IsTold : Option Held → (name bytes : List ℕ) → Type 0
IsTold told name bytes = IfSome told (λ held. held name ≡ Some bytes)

abbrev pub AreKnown : Option Held → List (String Global × Vec ℕ Global) → Type 0
AreKnown told known = All (λ k. IsTold told (string_bytes k.0) k.1.items) known

abbrev pub AreLoaded : Option Held → Sources → Type 0
AreLoaded told sources = All (λ f. IsTold told (string_bytes f.name) f.text.bytes.items) sources.files.items

-- a fault of tokens is the first one of these bytes
abbrev pub IsFaultOf : (text : List ℕ) → BuildFault → Type 0
IsFaultOf text (fault.Lex n e) = HasFault text e
IsFaultOf text _ = Unit {0}

-- why a file of this name was not taken in: a fault of tokens is the first one of its bytes, no bytes stand there, or there are more of them than the limit
abbrev pub IsFaultAt : Option Held → (name : List ℕ) → BuildFault → Type 0
IsFaultAt told name (fault.Lex n e) = (text : List ℕ) × (IsTold told name text × HasFault text e)
IsFaultAt told name (fault.Missing n) = IfSome told (λ held. held name ≡ None)
IsFaultAt told name (fault.Limit limit.File) = IfSome told (λ held. IsLonger (held name) MAX_FILE_BYTES)
IsFaultAt told name _ = Unit {0}

-- the file at fault has a name
abbrev pub IsFaultNamed : Option Held → Option (String Global) → BuildFault → Type 0
IsFaultNamed told (Some name) e = IsFaultAt told (string_bytes name) e
IsFaultNamed told None (fault.Lex n e) = ⊥
IsFaultNamed told None (fault.Read n) = ⊥
IsFaultNamed told None (fault.Missing n) = ⊥
IsFaultNamed told None (fault.Limit limit.File) = ⊥
IsFaultNamed told None _ = Unit {0}

abbrev pub IsFaultIn : Option Held → Sources → BuildFault → Type 0
IsFaultIn told sources e = IsFaultNamed told sources.refused e

-- known files and loaded ones have the bytes that the folder tells, and so has the one whose tokens are at fault
pub record HoldsTold (told : Option Held) (known : List (String Global × Vec ℕ Global)) (sources : Sources) (refused : Option BuildFault) : Type 0 where
  pub waiting : AreKnown told known
  pub loaded : AreLoaded told sources
  pub fault : IfSome refused (IsFaultIn told sources)
