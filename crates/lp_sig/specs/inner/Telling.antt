-- What is kept of signatures that were seen, and what a sight of one tells: types here are those of their names, with the numbers that kinds have here.
use Rattle.std.specs.Prelude.{◌≡◌, ◌+◌, ◌<◌, ◌≤◌, ◌⊎◌, ℕ, Bool, All, false, List, [], ◌∷◌, ◌++◌, length, nat_eq, Option, Some, None, slice_get, Contains, take, true}
use Rattle.indexmap.specs.IndexMap.{IndexMap, get}
use Rattle.lp_calculus.specs.Types.{Ty}
use Rattle.lp_term.specs.Nodes.{Nodes, type_tree}
use Rattle.lp_term.specs.declared.node.TypeId.{TypeId}
use Rattle.lp_base.specs.declared.limits.TheConstants.{END_OF_NUMBERS}
use Rattle.lp_sig.specs.Abbreviations.{abbreviation_names}
use Rattle.lp_sig.specs.AsWritten.{bodies_of}
use Rattle.lp_sig.specs.GoingTogether.{IsFirstWrong, IsNumbered, IsPastNumbers, KindsGo, IsOtherKind, HasNoKindNumber, AbbreviationsGo, IsOtherAbbreviation, ConstantsGo, IsOtherConstant, HasNoConstantNumber, types_of, standard_typed, constant_count, AreOfTexts, GoesWith, IsOtherwise, HasNoNumber}
use Rattle.lp_sig.specs.Differing.{number_here, numbered_by}
use Rattle.lp_sig.specs.Holding.{body_of, line_at}
use Rattle.lp_sig.specs.Knowing.{Knows}
use Rattle.lp_sig.specs.Modules.{of_each, said_of, constants_of}
use Rattle.lp_sig.specs.Named.{NamedTy, NamedTys, named_var, named_param, named_con, named_arrow, no_named, more_named, named, named_in, kind_name, kind_names, IsWhole}
use Rattle.lp_sig.specs.Places.{first_place}
use Rattle.lp_sig.specs.Rows.{Row, found}
use Rattle.lp_sig.specs.Said.{Said, a_kind, an_abbreviation, is_among, names_in}
use Rattle.lp_base.specs.declared.limit.Limit.TheVariants as limit
use Rattle.lp_base.specs.declared.place.Spot.{Spot}
use Rattle.lp_syntax.specs.declared.text.Declaration.{Declaration}
use Rattle.lp_sig.specs.Sights.{HasNumbers, signature_words, module_words}
use Rattle.lp_sig.specs.declared.fault.SigFault.TheVariants as fault
use Rattle.lp_sig.specs.declared.hearing.Said.{Said as Heard}
use Rattle.lp_sig.specs.declared.module_fault.ModuleSigFault.{ModuleSigFault}
use Rattle.lp_sig.specs.declared.module_fault.ModuleSigFault.TheVariants as wrong
use Rattle.lp_sig.specs.Standard.{standard_constants}
use Rattle.lp_sig.specs.Constants.{standard_tree}
use Rattle.lp_sig.specs.Types.{kind_number_of}
use Rattle.lp_sig.specs.Words.{meaning_of}
use Rattle.lp_sig.specs.Worded.{HasWords, is_met_word}
use Rattle.lp_sig.specs.declared.bodies.Body.{Body}
use Rattle.lp_sig.specs.declared.constants.Constant.{Constant}
use Rattle.lp_sig.specs.declared.constants.Constants.{Constants}
use Rattle.lp_sig.specs.declared.constants.DeclaredType.{DeclaredType}
use Rattle.lp_sig.specs.declared.constants.Known.{Known}
use Rattle.lp_sig.specs.declared.constants.Known.TheVariants as known
use Rattle.lp_sig.specs.declared.entries.AbbreviationEntry.{AbbreviationEntry}
use Rattle.lp_sig.specs.declared.entries.ConstantEntry.{ConstantEntry}
use Rattle.lp_sig.specs.declared.entries.KindEntry.{KindEntry}
use Rattle.lp_sig.specs.declared.making.Making.{Making}
use Rattle.lp_sig.specs.declared.see.Sight.{Sight}
use Rattle.lp_sig.specs.declared.see.Sight.TheVariants.{Alike, Otherwise, TooMany}
use Rattle.lp_sig.specs.declared.signature.Signature.{Signature}

-- the first sight that is not alike
abbrev pub first_sight : Sight → Sight → Sight
first_sight Alike s = s
first_sight Otherwise s = Otherwise
first_sight TooMany s = TooMany

-- what a sight tells of entries
abbrev pub Tells : {E : Type 0} → (List E → Type 0) → (Other Many : List E → E → Type 0) → List E → Sight → Type 0
Tells Go Other Many es Alike = Go es
Tells Go Other Many es Otherwise = IsFirstWrong Go Other es
Tells Go Other Many es TooMany = IsFirstWrong Go Many es

-- and what one tells of the entry behind some that go
abbrev pub TellsNext : {E : Type 0} → (List E → Type 0) → (Other Many : List E → E → Type 0) → List E → E → Sight → Type 0
TellsNext Go Other Many front e Alike = Go (front ++ e ∷ [])
TellsNext Go Other Many front e Otherwise = Other front e
TellsNext Go Other Many front e TooMany = Many front e

abbrev pub KindsTell : List (Row Said) → List KindEntry → Sight → Type 0
KindsTell said es s = Tells (KindsGo said) (IsOtherKind said) (HasNoKindNumber said) es s

abbrev pub NeverMany : {E : Type 0} → List E → E → Type 0
NeverMany front e = ⊥

abbrev pub AbbreviationsTell : List (Row Said) → List (Row NamedTy) → Signature → List AbbreviationEntry → Sight → Type 0
AbbreviationsTell said bodies u es s = Tells (AbbreviationsGo said bodies u) (IsOtherAbbreviation said bodies u) NeverMany es s

abbrev pub ConstantsTell : List (List ℕ) → List (Row NamedTy) → Signature → List ConstantEntry → Sight → Type 0
ConstantsTell words rows u es s = Tells (ConstantsGo words rows u) (IsOtherConstant rows u) (HasNoConstantNumber words) es s

-- of a signature
abbrev pub SightTells : List Signature → Signature → Sight → Type 0
SightTells before u Alike = GoesWith before u
SightTells before u Otherwise = IsOtherwise before u
SightTells before u TooMany = HasNoNumber before u

-- a kind by its name and its count of arguments
abbrev pub IsKindOf : List (Row Said) → List ℕ → ℕ → Type 0
IsKindOf said name arity = meaning_of name said ≡ Some (a_kind arity)

abbrev pub KindTells : List (Row Said) → List ℕ → ℕ → Sight → Type 0
KindTells said name arity Alike = IsKindOf said name arity × IsNumbered said name
KindTells said name arity Otherwise = IsKindOf said name arity → ⊥
KindTells said name arity TooMany = IsKindOf said name arity × IsPastNumbers said name

-- the number here of a name of which something is said: that of a kind, or the one that no kind has
pub data IsNumberHere (said : List (Row Said)) (name : List ℕ) (n : ℕ) : Type 0 where
  of_kind : (c : ℕ) → meaning_of name said ≡ Some (a_kind c) → kind_number_of name said ≡ Some n → IsNumberHere said name n
  of_no_kind : (p : ℕ) → meaning_of name said ≡ Some (an_abbreviation p) → n ≡ 4294967295 → IsNumberHere said name n

abbrev pub HasNumberHere : List (Row Said) → Option (List ℕ) → Type 0
HasNumberHere said None = ⊥
HasNumberHere said (Some name) = IsNumberHere said name (number_here said (Some name))

-- what holds of each name of a kind of a type
abbrev mutual
  pub EachKind : (Option (List ℕ) → Type 0) → NamedTy → Type 0
  EachKind P (named_var x) = Unit {0}
  EachKind P (named_param k) = Unit {0}
  EachKind P (named_con o ts) = P o × AllKinds P ts
  EachKind P (named_arrow a b) = EachKind P a × EachKind P b

  pub AllKinds : (Option (List ℕ) → Type 0) → NamedTys → Type 0
  AllKinds P no_named = Unit {0}
  AllKinds P (more_named t ts) = EachKind P t × AllKinds P ts

-- a type here is the one of these names
pub record IsTypeHere (said : List (Row Said)) (T : Ty) (N : NamedTy) : Type 0 where
  pub tree : T ≡ numbered_by (number_here said) N
  pub known : EachKind (HasNumberHere said) N

-- numbers of kinds there and here have the same names
abbrev pub AreNumberedHere : {S : Type 0} → List (Row Said) → (names : List (List ℕ)) → IndexMap ℕ ℕ S → Type 0
AreNumberedHere said names kinds = (k n : ℕ) → get nat_eq kinds k ≡ Some n → (name : List ℕ) × (kind_name names k ≡ Some name) × IsNumberHere said name n

-- types made here of those of a bank there are the same by the names of kinds, where each of these has one
abbrev pub AreTypesHere : (there here : Nodes) → (names : List (List ℕ)) → List (Row Said) → List TypeId → Type 0
AreTypesHere there here names said made =
    (i : ℕ) (t : TypeId) → slice_get made i ≡ Some t → (t.0 < length here.types) × (IsWhole (named (kind_name names) (type_tree there i)) → IsTypeHere said (type_tree here t.0) (named (kind_name names) (type_tree there i)))

-- a constant that is known has the type of the first row of its name
pub record IsTypedHere (b : Nodes) (said : List (Row Said)) (rows : List (Row NamedTy)) (k : Constant) : Type 0 where
  pub type : DeclaredType
  pub declared : k.declared ≡ Some type
  pub inside : type.scheme.0 < length b.types
  pub name : NamedTy
  pub first : found k.name.items rows ≡ Some name
  pub is : IsTypeHere said (type_tree b type.scheme.0) name

abbrev pub AreTypedHere : Nodes → Constants → List (Row Said) → List (Row NamedTy) → Type 0
AreTypedHere b c said rows = (k : Constant) → Contains c.constants.items k → IsTypedHere b said rows k

-- there is a number behind so many constants, or none
abbrev pub IsRoom : ℕ → Bool → Type 0
IsRoom n true = 32 + n < END_OF_NUMBERS
IsRoom n false = END_OF_NUMBERS ≤ 32 + n

abbrev pub IsRoomSight : ℕ → Sight → Type 0
IsRoomSight n Alike = 32 + n < END_OF_NUMBERS
IsRoomSight n Otherwise = ⊥
IsRoomSight n TooMany = END_OF_NUMBERS ≤ 32 + n

-- what is known of a name is the type of the language, or of a constant
pub data IsTypeOfName (b : Nodes) (c : Constants) (name : List ℕ) (t : TypeId) : Type 0 where
  of_language : (n : ℕ) → found name standard_constants ≡ Some n → t.0 < length b.types → type_tree b t.0 ≡ standard_tree n → IsTypeOfName b c name t
  of_constant : (k : Constant) → Contains c.constants.items k → k.name.items ≡ name → found name standard_constants ≡ None → (d : DeclaredType) → k.declared ≡ Some d → t ≡ d.scheme → IsTypeOfName b c name t

abbrev pub IsKnownType : Nodes → Constants → List ℕ → Known → Type 0
IsKnownType b c name known.New = Unit {0}
IsKnownType b c name known.Untyped = (k : Constant) × Contains c.constants.items k × (k.declared ≡ None)
IsKnownType b c name (known.Typed t) = IsTypeOfName b c name t

-- a name of which a kind with a number below 65535 is known
pub record FitsName (said : List (Row Said)) (name : List ℕ) : Type 0 where
  pub number : ℕ
  pub has : kind_number_of name said ≡ Some number
  pub low : number < END_OF_NUMBERS
  pub arity : ℕ
  pub means : meaning_of name said ≡ Some (a_kind arity)

abbrev pub FitsHere : List (Row Said) → Option (List ℕ) → Type 0
FitsHere said None = ⊥
FitsHere said (Some name) = FitsName said name

-- a type was made here with these names
abbrev pub IsMadeHere : Nodes → List (Row Said) → List TypeId → TypeId → NamedTy → Type 0
IsMadeHere b said made there t = (id : TypeId) → slice_get made there.0 ≡ Some id → (id.0 < length b.types) × IsTypeHere said (type_tree b id.0) t

-- what is known where a constant is seen, and where several are
pub record CanSee (b : Nodes) (c : Constants) (said : List (Row Said)) (rows : List (Row NamedTy)) (made : List TypeId) (e : ConstantEntry) (t : NamedTy) : Type 0 where
  pub met : HasWords c (names_in rows)
  pub typed : AreTypedHere b c said rows
  pub here : IsMadeHere b said made e.scheme t

pub record CanSeeAll (b : Nodes) (c : Constants) (u : Signature) (said : List (Row Said)) (rows : List (Row NamedTy)) (made : List TypeId) (es : List ConstantEntry) : Type 0 where
  pub met : HasWords c (names_in rows)
  pub typed : AreTypedHere b c said rows
  pub here : AreTypesHere u.bank b (kind_names u) said made
  pub whole : All (λ e. IsWhole (named_in u e.scheme)) es

-- what a sight tells of a constant, behind these
abbrev pub ConstantTells : List (Row NamedTy) → List ℕ → NamedTy → Sight → Type 0
ConstantTells rows name t Alike = (found name (standard_typed ++ (rows ++ (name, t) ∷ [])) ≡ Some t) × ((is_met_word name (names_in rows) ≡ true) ⊎ (32 + constant_count (names_in rows) < END_OF_NUMBERS))
ConstantTells rows name t Otherwise = found name (standard_typed ++ (rows ++ (name, t) ∷ [])) ≡ Some t → ⊥
ConstantTells rows name t TooMany = (is_met_word name (names_in rows) ≡ false) × (END_OF_NUMBERS ≤ 32 + constant_count (names_in rows))

-- and of an abbreviation
abbrev pub IsAbbreviationOf : List (Row Said) → List (Row NamedTy) → List ℕ → ℕ → NamedTy → Type 0
IsAbbreviationOf said rows name p t = (meaning_of name said ≡ Some (an_abbreviation p)) × (found name rows ≡ Some t)

abbrev pub AbbreviationTells : List (Row Said) → List (Row NamedTy) → List ℕ → ℕ → NamedTy → Sight → Type 0
AbbreviationTells said rows name p t Alike = IsAbbreviationOf said rows name p t
AbbreviationTells said rows name p t Otherwise = IsAbbreviationOf said rows name p t → ⊥
AbbreviationTells said rows name p t TooMany = ⊥

-- the body at the place of an abbreviation is that of the first row of its name
pub record IsBodyHere (b : Nodes) (bodies : List Body) (said : List (Row Said)) (rows : List (Row NamedTy)) (name : List ℕ) (place : ℕ) : Type 0 where
  pub id : TypeId
  pub at : body_of bodies place ≡ Some id
  pub inside : id.0 < length b.types
  pub body : NamedTy
  pub first : found name rows ≡ Some body
  pub is : IsTypeHere said (type_tree b id.0) body

pub record AreBodiesHere (b : Nodes) (bodies : List Body) (said : List (Row Said)) (rows : List (Row NamedTy)) : Type 0 where
  pub are : (name : List ℕ) (place : ℕ) → first_place name (abbreviation_names said) ≡ Some place → IsBodyHere b bodies said rows name place
  pub count : length bodies ≡ length (abbreviation_names said)
  pub told : (n : List ℕ) → is_among n (names_in rows) ≡ true → is_among n (names_in said) ≡ true
  pub no_line : (i : ℕ) → line_at bodies i ≡ None

pub record CanSeeBodies (b : Nodes) (bodies : List Body) (u : Signature) (said : List (Row Said)) (rows : List (Row NamedTy)) (made : List TypeId) (es : List AbbreviationEntry) : Type 0 where
  pub given : AreBodiesHere b bodies said rows
  pub here : AreTypesHere u.bank b (kind_names u) said made
  pub whole : All (λ e. IsWhole (named_in u e.body)) es

-- what is kept of signatures that were seen
pub record HoldsTypes (making : Making) (before : List Signature) : Type 0 where
  pub bodies : AreBodiesHere making.bodies.types.bank making.bodies.bodies.items (of_each said_of before) (of_each bodies_of before)
  pub constants : AreTypedHere making.bodies.types.bank making.constants (of_each said_of before) (of_each types_of before)

pub record KnowsBefore (making : Making) (before : List Signature) : Type 0 where
  pub names : Knows making.names (of_each said_of before)
  pub words : HasWords making.constants (of_each constants_of before)
  pub kept : AreOfTexts before → HoldsTypes making before

-- how a sight of a word's signature is told
abbrev pub IsBlamed : Spot → Sight → ModuleSigFault → Type 0
IsBlamed word Alike e = ⊥
IsBlamed word Otherwise e = e ≡ wrong.Sig (fault.Differ word)
IsBlamed word TooMany e = e ≡ wrong.Sig (fault.Limit limit.Names)

-- what the sights of signatures tell of them
abbrev pub AreTold : List Signature → List Signature → List Sight → Type 0
AreTold before used sights = (i : ℕ) (s : Sight) → slice_get sights i ≡ Some s → (u : Signature) × (slice_get used i ≡ Some u) × SightTells (before ++ take i used) u s

-- the words of a text have their numbers, and the sights tell of the signatures that they name
pub record AreSights (own : Signature) (used : List Signature) (text : List ℕ) (heard : Heard) (sights : List Sight) (ds : List Declaration) : Type 0 where
  pub signatures : HasNumbers heard.accum_sigs (signature_words text ds)
  pub modules : HasNumbers heard.accumulates (module_words text ds)
  pub told : AreTold (own ∷ []) used sights
