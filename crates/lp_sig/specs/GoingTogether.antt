-- How a signature goes with those before it: whether it declares a name otherwise than the language or a signature before it, and whether there are numbers for its kinds and constants.
use Rattle.std.specs.Prelude.{◌≡◌, ◌+◌, ◌≤◌, ◌<◌, ◌⊎◌, ℕ, List, [], ◌∷◌, ◌++◌, map, length, Some, false, All}
use Rattle.lp_base.specs.declared.limits.TheConstants.{END_OF_NUMBERS}
use Rattle.lp_sig.specs.Rows.{Row, found}
use Rattle.lp_sig.specs.Standard.{standard_constants}
use Rattle.lp_sig.specs.Said.{Said, a_kind, an_abbreviation, names_in}
use Rattle.lp_sig.specs.Words.{meaning_of}
use Rattle.lp_sig.specs.Types.{kind_number_of}
use Rattle.lp_sig.specs.Constants.{standard_tree}
use Rattle.lp_sig.specs.Modules.{of_each, said_of, constants_of, first_names}
use Rattle.lp_sig.specs.Named.{NamedTy, named, named_in, kind_name, IsOrdered}
use Rattle.lp_sig.specs.AsWritten.{bodies_of, HasWholeBodies}
use Rattle.lp_sig.specs.Worded.{is_met_word}
use Rattle.lp_sig.specs.declared.entries.KindEntry.{KindEntry}
use Rattle.lp_sig.specs.declared.entries.AbbreviationEntry.{AbbreviationEntry}
use Rattle.lp_sig.specs.declared.entries.ConstantEntry.{ConstantEntry}
use Rattle.lp_sig.specs.declared.signature.Signature.{Signature}

-- the constants of a signature, and those of the language, with their types by the names of kinds
abbrev pub named_constant : Signature → ConstantEntry → Row NamedTy
named_constant s e = (e.name.items, named_in s e.scheme)

abbrev pub types_of : Signature → List (Row NamedTy)
types_of s = map (named_constant s) s.constants.items

abbrev pub named_standard : Row ℕ → Row NamedTy
named_standard r = (r.0, named (kind_name []) (standard_tree r.1))

abbrev pub standard_typed : List (Row NamedTy)
standard_typed = map named_standard standard_constants

-- what is said of kinds and abbreviations, the bodies of abbreviations, and the types of constants: in the signatures before, then in this one; what is said first of a name holds
abbrev pub said_with : List Signature → Signature → List (Row Said)
said_with before s = of_each said_of before ++ said_of s

abbrev pub bodies_with : List Signature → Signature → List (Row NamedTy)
bodies_with before s = of_each bodies_of before ++ bodies_of s

abbrev pub types_with : List Signature → Signature → List (Row NamedTy)
types_with before s = of_each types_of before ++ types_of s

-- a kind is a kind with as many arguments as it has first, and its number is below 65535
abbrev pub IsSameKind : List (Row Said) → KindEntry → Type 0
IsSameKind said e = meaning_of e.name.items said ≡ Some (a_kind e.arity)

abbrev pub IsNumbered : List (Row Said) → List ℕ → Type 0
IsNumbered said name = (n : ℕ) × (kind_number_of name said ≡ Some n) × (n < END_OF_NUMBERS)

abbrev pub IsPastNumbers : List (Row Said) → List ℕ → Type 0
IsPastNumbers said name = (n : ℕ) × (kind_number_of name said ≡ Some n) × (END_OF_NUMBERS ≤ n)

-- an abbreviation is one with as many parameters, and with the body that its name is given first
abbrev pub IsSameAbbreviation : List (Row Said) → List (Row NamedTy) → Signature → AbbreviationEntry → Type 0
IsSameAbbreviation said bodies s e = (meaning_of e.name.items said ≡ Some (an_abbreviation e.type_vars)) × (found e.name.items bodies ≡ Some (named_in s e.body))

-- a constant has the type that its name has first, in the language before all
abbrev pub IsSameConstant : List (Row NamedTy) → Signature → ConstantEntry → Type 0
IsSameConstant types s e = found e.name.items (standard_typed ++ types) ≡ Some (named_in s e.scheme)

-- how many constants there are behind some names, those of the language apart; and that there are numbers below 65535 for all, if there are more behind these entries
abbrev pub constant_count : List (List ℕ) → ℕ
constant_count words = length (first_names (names_in standard_constants) words)

abbrev pub entry_names : List ConstantEntry → List (List ℕ)
entry_names es = map (λ e. e.name.items) es

abbrev pub AreNumberedConstants : List (List ℕ) → List ConstantEntry → Type 0
AreNumberedConstants words es = (constant_count (words ++ entry_names es) ≡ constant_count words) ⊎ (32 + constant_count (words ++ entry_names es) ≤ END_OF_NUMBERS)

-- the first of some entries that is refused: those in front of it go, and this is wrong with it
pub record IsFirstWrong {E : Type 0} (Go : List E → Type 0) (IsWrong : List E → E → Type 0) (entries : List E) : Type 0 where
  pub front : List E
  pub entry : E
  pub rest : List E
  pub parts : entries ≡ front ++ entry ∷ rest
  pub before : Go front
  pub wrong : IsWrong front entry

-- kinds, abbreviations and constants that go, and what is wrong with one of them, behind those in front of it
abbrev pub KindsGo : List (Row Said) → List KindEntry → Type 0
KindsGo said es = All (λ e. IsSameKind said e × IsNumbered said e.name.items) es

abbrev pub IsOtherKind : List (Row Said) → List KindEntry → KindEntry → Type 0
IsOtherKind said front e = IsSameKind said e → ⊥

abbrev pub HasNoKindNumber : List (Row Said) → List KindEntry → KindEntry → Type 0
HasNoKindNumber said front e = IsSameKind said e × IsPastNumbers said e.name.items

abbrev pub AbbreviationsGo : List (Row Said) → List (Row NamedTy) → Signature → List AbbreviationEntry → Type 0
AbbreviationsGo said bodies s es = All (IsSameAbbreviation said bodies s) es

abbrev pub IsOtherAbbreviation : List (Row Said) → List (Row NamedTy) → Signature → List AbbreviationEntry → AbbreviationEntry → Type 0
IsOtherAbbreviation said bodies s front e = IsSameAbbreviation said bodies s e → ⊥

pub record ConstantsGo (words : List (List ℕ)) (types : List (Row NamedTy)) (s : Signature) (es : List ConstantEntry) : Type 0 where
  pub same : All (IsSameConstant types s) es
  pub numbered : AreNumberedConstants words es

abbrev pub IsOtherConstant : List (Row NamedTy) → Signature → List ConstantEntry → ConstantEntry → Type 0
IsOtherConstant types s front e = IsSameConstant types s e → ⊥

abbrev pub HasNoConstantNumber : List (List ℕ) → List ConstantEntry → ConstantEntry → Type 0
HasNoConstantNumber words front e = (is_met_word e.name.items (words ++ entry_names front) ≡ false) × (END_OF_NUMBERS ≤ 32 + constant_count (words ++ entry_names front))

-- signatures as texts have them: of types of others nothing is said
pub record AreOfTexts (signatures : List Signature) : Type 0 where
  pub ordered : All IsOrdered signatures
  pub whole : All HasWholeBodies signatures

-- a signature goes with those before it: its kinds, then its abbreviations, then its constants
pub record GoesWith (before : List Signature) (s : Signature) : Type 0 where
  pub kinds : KindsGo (said_with before s) s.kinds.items
  pub abbreviations : AreOfTexts (before ++ s ∷ []) → AbbreviationsGo (said_with before s) (bodies_with before s) s s.abbreviations.items
  pub constants : AreOfTexts (before ++ s ∷ []) → ConstantsGo (of_each constants_of before) (types_with before s) s s.constants.items

-- it declares a name otherwise: that is the first thing that is wrong with it
pub data IsOtherType (before : List Signature) (s : Signature) : Type 0 where
  other_abbreviation : IsFirstWrong (AbbreviationsGo (said_with before s) (bodies_with before s) s) (IsOtherAbbreviation (said_with before s) (bodies_with before s) s) s.abbreviations.items → IsOtherType before s
  other_constant : AbbreviationsGo (said_with before s) (bodies_with before s) s s.abbreviations.items →
      IsFirstWrong (ConstantsGo (of_each constants_of before) (types_with before s) s) (IsOtherConstant (types_with before s) s) s.constants.items → IsOtherType before s

pub data IsOtherwise (before : List Signature) (s : Signature) : Type 0 where
  other_kind : IsFirstWrong (KindsGo (said_with before s)) (IsOtherKind (said_with before s)) s.kinds.items → IsOtherwise before s
  other_type : KindsGo (said_with before s) s.kinds.items → (AreOfTexts (before ++ s ∷ []) → IsOtherType before s) → IsOtherwise before s

-- no number is left for a kind or a constant: that is the first thing that is wrong with it
pub record HasManyConstants (before : List Signature) (s : Signature) : Type 0 where
  pub abbreviations : AbbreviationsGo (said_with before s) (bodies_with before s) s s.abbreviations.items
  pub constants : IsFirstWrong (ConstantsGo (of_each constants_of before) (types_with before s) s) (HasNoConstantNumber (of_each constants_of before)) s.constants.items

pub data HasNoNumber (before : List Signature) (s : Signature) : Type 0 where
  many_kinds : IsFirstWrong (KindsGo (said_with before s)) (HasNoKindNumber (said_with before s)) s.kinds.items → HasNoNumber before s
  many_constants : KindsGo (said_with before s) s.kinds.items → (AreOfTexts (before ++ s ∷ []) → HasManyConstants before s) → HasNoNumber before s
