-- Why a sentence of constants of a module's text is refused for its names and its type: which constants are known before it, with which types, when no number is left for a new one, and when a type has too many variables.
use Rattle.std.specs.Prelude.{◌≡◌, ◌⊎◌, ◌+◌, ◌<◌, ◌≤◌, ℕ, List, ◌++◌, Option, Some, None, map, take, length, Contains, true, false, slice_index_or}
use Rattle.lp_base.specs.declared.limits.TheConstants.{END_OF_NUMBERS, MAX_ARGUMENTS}
use Rattle.lp_base.specs.declared.limit.Limit.TheVariants as limit
use Rattle.lp_base.specs.declared.place.Spot.{Spot}
use Rattle.lp_calculus.specs.Types.{Ty, Tys, var, param, con, arrow, no_types, types}
use Rattle.lp_syntax.specs.declared.text.RawType.{RawType}
use Rattle.lp_sig.specs.Constants.{Written, written_in, IsSchemeOf, standard_tree}
use Rattle.lp_sig.specs.Faults.{HasOtherBody}
use Rattle.lp_sig.specs.Limits.{IsRepeated}
use Rattle.lp_sig.specs.Modules.{first_names}
use Rattle.lp_sig.specs.Named.{NamedTy, NamedTys, named_var, named_param, named_con, named_arrow, no_named, more_named}
use Rattle.lp_sig.specs.Pieces.{spelled}
use Rattle.lp_sig.specs.Rows.{Row, found}
use Rattle.lp_sig.specs.Said.{Said, a_kind, an_abbreviation, names_in}
use Rattle.lp_sig.specs.Standard.{standard_constants}
use Rattle.lp_sig.specs.Types.{Definition, kind_number_of}
use Rattle.lp_sig.specs.Words.{IsLongType, IsNameFault, meaning_of}
use Rattle.lp_sig.specs.Worded.{is_met_word}
use Rattle.lp_sig.specs.declared.fault.SigFault.{SigFault}
use Rattle.lp_sig.specs.declared.fault.SigFault.TheVariants as fault

-- the number of a kind of this name, where so much is said; one that is no kind has the last number, which no kind has
abbrev pub number_for : Option Said → Option ℕ → ℕ
number_for None o = 4294967295
number_for (Some (an_abbreviation p)) o = 4294967295
number_for (Some (a_kind c)) None = 4294967295
number_for (Some (a_kind c)) (Some n) = n

abbrev pub number_here : List (Row Said) → Option (List ℕ) → ℕ
number_here said None = 4294967295
number_here said (Some name) = number_for (meaning_of name said) (kind_number_of name said)

-- a type with numbers for the names of its kinds
abbrev mutual
  pub numbered_by : (Option (List ℕ) → ℕ) → NamedTy → Ty
  numbered_by ν (named_var x) = var x
  numbered_by ν (named_param k) = param k
  numbered_by ν (named_con o ts) = con (ν o) (all_numbered ν ts)
  numbered_by ν (named_arrow a b) = arrow (numbered_by ν a) (numbered_by ν b)

  pub all_numbered : (Option (List ℕ) → ℕ) → NamedTys → Tys
  all_numbered ν no_named = no_types
  all_numbered ν (more_named t ts) = types (numbered_by ν t) (all_numbered ν ts)

-- types of signatures by the names of kinds, with the numbers that these have here
abbrev pub trees_here : List (Row Said) → List (Row NamedTy) → List (Row Ty)
trees_here said rows = map (λ r. (r.0, numbered_by (number_here said) r.1)) rows

-- a constant is known with this type: one of the language, one that the signatures give, or one that the text declares so
pub data IsKnownType (said : List (Row Said)) (defs : List (Row Definition)) (given : List (Row Ty)) (rows : List (Row Written)) (name : List ℕ) (t : Ty) : Type 0 where
  of_language : (n : ℕ) → found name standard_constants ≡ Some n → t ≡ standard_tree n → IsKnownType said defs given rows name t
  of_signatures : found name given ≡ Some t → IsKnownType said defs given rows name t
  of_text : (w : Written) → Contains rows (name, w) → (count : ℕ) → IsSchemeOf said defs w count t → IsKnownType said defs given rows name t

-- a name that is known has another type than the one that is written
pub record DiffersFrom (said : List (Row Said)) (defs : List (Row Definition)) (given : List (Row Ty)) (rows : List (Row Written)) (name : List ℕ) (w : Written) : Type 0 where
  pub known : Ty
  pub before : IsKnownType said defs given rows name known
  pub here : Ty
  pub count : ℕ
  pub is : IsSchemeOf said defs w count here
  pub differ : known ≡ here → ⊥

-- the first of these names that is new behind so many known ones has no number: constants have those from 32 on
pub record HasNewWithoutNumber (text : List ℕ) (words : List (List ℕ)) (names : List Spot) : Type 0 where
  pub k : ℕ
  pub name : Spot
  pub inside : k < length names
  pub at_name : slice_index_or names k name ≡ name
  pub new : is_met_word (spelled text name) (words ++ map (λ s. spelled text s) (take k names)) ≡ false
  pub full : END_OF_NUMBERS ≤ 32 + length (first_names (names_in standard_constants) (words ++ map (λ s. spelled text s) (take k names)))

-- a name of these is known, or stands before among them
pub record IsMetAt (text : List ℕ) (words : List (List ℕ)) (names : List Spot) (s : Spot) : Type 0 where
  pub k : ℕ
  pub inside : k < length names
  pub at_name : slice_index_or names k s ≡ s
  pub met : is_met_word (spelled text s) (words ++ map (λ s. spelled text s) (take k names)) ≡ true

-- why names are refused behind so many known ones: one that is declared otherwise is known, and where numbers are wanting none is left
pub record HasNameCause (text : List ℕ) (words : List (List ℕ)) (names : List Spot) (f : SigFault) : Type 0 where
  pub differs : (s : Spot) → f ≡ fault.Differ s → IsMetAt text words names s
  pub full : f ≡ fault.Limit limit.Names → HasNewWithoutNumber text words names

-- a type has more than 255 type variables behind its abbreviations
pub record HasManyVariables (said : List (Row Said)) (defs : List (Row Definition)) (w : Written) : Type 0 where
  pub count : ℕ
  pub tree : Ty
  pub is : IsSchemeOf said defs w count tree
  pub many : MAX_ARGUMENTS < count

-- why such a sentence is refused by its type: a name that is declared otherwise is one of them, and known with another type, and where arguments are too many, the type has more than 255, or more than 255 type variables
pub record HasTypeCause (text : List ℕ) (said : List (Row Said)) (defs : List (Row Definition)) (given : List (Row Ty)) (rows : List (Row Written)) (names : List Spot) (ty : RawType) (f : SigFault) : Type 0 where
  pub differs : (s : Spot) → f ≡ fault.Differ s → Contains names s × DiffersFrom said defs given rows (spelled text s) (written_in text ty)
  pub long : f ≡ fault.Limit limit.Arguments → IsLongType ty.nodes.items ty.root ⊎ HasManyVariables said defs (written_in text ty)

-- where the name of an abbreviation is declared otherwise: it means something else, or a parameter of it stands twice, or the first body of the name is another one
abbrev pub IsOtherBodyIf : List ℕ → List (Row Said) → List (Row Definition) → Spot → List Spot → RawType → SigFault → Type 0
IsOtherBodyIf text said defs name ps ty f = f ≡ fault.Differ name → IsNameFault text said (an_abbreviation (length ps)) name f ⊎ (IsRepeated text ps name ⊎ HasOtherBody said defs text name ps ty)
