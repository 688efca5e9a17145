-- Constants: what sentences declare, which type each has, and why a sentence of constants is refused.
use Rattle.std.specs.Global.{Global}
use Rattle.std.specs.Prelude.{◌≡◌, ◌≢◌, ◌≤◌, ◌<◌, ◌+◌, ◌⊎◌, ℕ, suc, List, [], ◌∷◌, ◌++◌, Option, Some, None, Vec, map, take, length, All, Contains, codes, true, is_some, IfSome, slice_index_or, ◌||◌}
use Rattle.lp_base.specs.declared.limits.TheConstants.{END_OF_NUMBERS, MAX_ARGUMENTS, MAX_NAME_BYTES}
use Rattle.lp_base.specs.declared.limit.Limit.TheVariants as limit
use Rattle.lp_base.specs.declared.place.Spot.{Spot}
use Rattle.lp_calculus.specs.Types.{Ty, var, arrow}
use Rattle.lp_calculus.specs.Typing.{o_type, int_type, string_type, list_type}
use Rattle.lp_term.specs.Nodes.{Nodes, type_tree}
use Rattle.lp_term.specs.declared.node.TypeId.{TypeId}
use Rattle.lp_syntax.specs.declared.text.Declaration.{Declaration}
use Rattle.lp_syntax.specs.declared.text.Declaration.TheVariants.{Kinds, LocalKinds, Constants as OfType, Locals, Abbreviation, Accumulate, AccumSig, Fixities}
use Rattle.lp_syntax.specs.declared.text.RawType.{RawType}
use Rattle.lp_syntax.specs.declared.text.RawTypeNode.{RawTypeNode}
use Rattle.lp_syntax.specs.declared.text.RawTypeNode.TheVariants as node
use Rattle.lp_sig.specs.Pieces.{spelled, begins_variable}
use Rattle.lp_sig.specs.Places.{HasPlaces}
use Rattle.lp_sig.specs.Rows.{Row, found}
use Rattle.lp_sig.specs.Standard.{standard_constants}
use Rattle.lp_sig.specs.Said.{Said, each, is_among, names_in, firsts}
use Rattle.lp_sig.specs.Loading.{Way}
use Rattle.lp_sig.specs.Abbreviations.{Seen, abbreviation_names}
use Rattle.lp_sig.specs.Standing.{BodyStands, TypeStands}
use Rattle.lp_sig.specs.Limits.{AreShort}
use Rattle.lp_sig.specs.Words.{IsLongType, IsFirstFault, IsSoundType}
use Rattle.lp_sig.specs.Schemes.{first_variables, numbered_type}
use Rattle.lp_sig.specs.Types.{Definition, IsNode, IsTypeOf}
use Rattle.lp_sig.specs.Holding.{body_of, IsTree}
use Rattle.lp_sig.specs.declared.bodies.Body.{Body}
use Rattle.lp_sig.specs.declared.entries.ConstantEntry.{ConstantEntry}
use Rattle.lp_sig.specs.declared.constants.Constant.{Constant}
use Rattle.lp_sig.specs.declared.constants.Constants.{Constants}
use Rattle.lp_sig.specs.declared.constants.DeclaredType.{DeclaredType}
use Rattle.lp_sig.specs.declared.constants.Known.{Known}
use Rattle.lp_sig.specs.declared.constants.Known.TheVariants as known
use Rattle.lp_sig.specs.declared.standard.Parts.{Parts}
use Rattle.lp_sig.specs.declared.fault.SigFault.{SigFault}
use Rattle.lp_sig.specs.declared.fault.SigFault.TheVariants as fault

-- a type as written, with the text in which it stands
pub record Written : Type 0 where
  pub text : List ℕ
  pub raw : RawType

abbrev pub written_in : List ℕ → RawType → Written
written_in text ty = record { text = text; raw = ty }

-- the constants of a sentence and of a text, each with its type as written, in order
abbrev pub constants_by : List ℕ → Declaration → List (Row Written)
constants_by text (Kinds names n) = []
constants_by text (LocalKinds names n) = []
constants_by text (OfType names ty) = each text (written_in text ty) names.items
constants_by text (Locals names ty) = []
constants_by text (Abbreviation name ps ty) = []
constants_by text (Accumulate words) = []
constants_by text (AccumSig words) = []
constants_by text (Fixities names f n) = []

abbrev pub constants_in : List ℕ → List Declaration → List (Row Written)
constants_in text [] = []
constants_in text (d ∷ ds) = constants_by text d ++ constants_in text ds

-- what is declared: the first of each name that is not standard
abbrev pub declared_constants : List (Row Written) → List (Row Written)
declared_constants rows = firsts (names_in standard_constants) rows

-- a variable word at a node of a type
abbrev pub IsVariable : List ℕ → List RawTypeNode → ℕ → Spot → Type 0
IsVariable text nodes i s = (args : Vec ℕ Global) × IsNode nodes i (node.Word s args) × (begins_variable (spelled text s) ≡ true)

-- the variable words of a declared type are numbered: one name has one number, but each `_` has its own, and no two have the same
pub record IsNumbering (text : List ℕ) (nodes : List RawTypeNode) (ν : ℕ → Spot → Option ℕ) : Type 0 where
  pub same : (i j : ℕ) (s z : Spot) (n : ℕ) → IsVariable text nodes i s → IsVariable text nodes j z → spelled text s ≡ spelled text z → spelled text s ≢ codes "_" → ν i s ≡ Some n → ν j z ≡ Some n
  pub apart : (i j : ℕ) (s z : Spot) (n : ℕ) → IsVariable text nodes i s → IsVariable text nodes j z → ν i s ≡ Some n → ν j z ≡ Some n → (i ≡ j) ⊎ ((spelled text s ≡ spelled text z) × (spelled text s ≢ codes "_"))

-- a declared type: the tree of what is written, its type variables numbered by first place, with their count
pub record IsSchemeOf (said : List (Row Said)) (defs : List (Row Definition)) (w : Written) (count : ℕ) (tree : Ty) : Type 0 where
  pub number : ℕ → Spot → Option ℕ
  pub numbering : IsNumbering w.text w.raw.nodes.items number
  pub replaced : Ty
  pub is : IsTypeOf said defs w.text number w.raw.nodes.items w.raw.root replaced
  pub counted : count ≡ length (first_variables replaced)
  pub numbered : tree ≡ numbered_type replaced

-- the types of the standard constants, by their numbers: `,` `;` `=>` `:-` `pi` `sigma` `true` `!` `=` `is` `<` `>` `=<` `>=` `::`
-- `nil` `+` `-` `*` `div` `mod` `~` `^` `size` `not`
abbrev pub on_two : Ty → Ty → Ty
on_two from to = arrow from (arrow from to)

abbrev pub standard_types : List Ty
standard_types =
    on_two o_type o_type ∷ on_two o_type o_type ∷ on_two o_type o_type ∷ on_two o_type o_type ∷
    arrow (arrow (var 0) o_type) o_type ∷ arrow (arrow (var 0) o_type) o_type ∷ o_type ∷ o_type ∷
    on_two (var 0) o_type ∷ on_two (var 0) o_type ∷
    on_two int_type o_type ∷ on_two int_type o_type ∷ on_two int_type o_type ∷ on_two int_type o_type ∷
    arrow (var 0) (arrow (list_type (var 0)) (list_type (var 0))) ∷ list_type (var 0) ∷
    on_two int_type int_type ∷ on_two int_type int_type ∷ on_two int_type int_type ∷ on_two int_type int_type ∷ on_two int_type int_type ∷
    arrow int_type int_type ∷ on_two string_type string_type ∷ arrow string_type int_type ∷ arrow o_type o_type ∷ []

abbrev pub standard_tree : ℕ → Ty
standard_tree n = slice_index_or standard_types n (arrow o_type o_type)

-- the types of which they are made
pub record AreParts (b : Nodes) (p : Parts) : Type 0 where
  pub goal : IsTree b (λ t. t ≡ o_type) p.goal
  pub int : IsTree b (λ t. t ≡ int_type) p.int
  pub string : IsTree b (λ t. t ≡ string_type) p.string
  pub any : IsTree b (λ t. t ≡ var 0) p.any
  pub list : IsTree b (λ t. t ≡ list_type (var 0)) p.list

-- the type with which a name is declared first; standard names come before all others
pub data HasType (said : List (Row Said)) (defs : List (Row Definition)) (rows : List (Row Written)) (name : List ℕ) (t : Ty) : Type 0 where
  standard_one : (n : ℕ) → found name standard_constants ≡ Some n → t ≡ standard_tree n → HasType said defs rows name t
  declared_one : found name standard_constants ≡ None → (w : Written) → found name rows ≡ Some w → (count : ℕ) → IsSchemeOf said defs w count t → HasType said defs rows name t

-- two lists in step, the members of the first numbered from a number on
abbrev pub AreInStep : {A B : Type 0} → (ℕ → A → B → Type 0) → ℕ → List A → List B → Type 0
AreInStep P n [] [] = Unit {0}
AreInStep P n [] (y ∷ ys) = ⊥
AreInStep P n (x ∷ xs) [] = ⊥
AreInStep P n (x ∷ xs) (y ∷ ys) = P n x y × AreInStep P (suc n) xs ys

-- an entry is that of a declared constant
pub record IsConstant (b : Nodes) (said : List (Row Said)) (defs : List (Row Definition)) (n : ℕ) (row : Row Written) (e : ConstantEntry) : Type 0 where
  pub name : e.name.items ≡ row.0
  pub number : e.number ≡ n
  pub inside : e.scheme.0 < length b.types
  pub scheme : IsSchemeOf said defs row.1 e.type_vars (type_tree b e.scheme.0)

-- the entries are those of the declared constants, in order, with numbers from 32 on
abbrev pub AreConstants : Nodes → List (Row Said) → List (Row Definition) → List (Row Written) → List ConstantEntry → Type 0
AreConstants b said defs rows entries = AreInStep (IsConstant b said defs) 32 (declared_constants rows) entries

-- there are numbers below 65535 for all constants
abbrev pub HaveNumbers : List (Row Written) → Type 0
HaveNumbers rows = 32 + length (declared_constants rows) ≤ END_OF_NUMBERS

-- a type of the bank is that of a declared constant
pub record IsTyped (b : Nodes) (said : List (Row Said)) (defs : List (Row Definition)) (w : Written) (d : DeclaredType) : Type 0 where
  pub inside : d.scheme.0 < length b.types
  pub scheme : IsSchemeOf said defs w d.type_vars (type_tree b d.scheme.0)

-- a constant that is known is that of a row; its type is missing where an abbreviation in it has none
pub record IsNoted (b : Nodes) (said : List (Row Said)) (defs : List (Row Definition)) (n : ℕ) (row : Row Written) (c : Constant) : Type 0 where
  pub name : c.name.items ≡ row.0
  pub typed : IfSome c.declared (IsTyped b said defs row.1)

-- the constants so far are those of these rows
pub record KnowsConstants (b : Nodes) (constants : Constants) (said : List (Row Said)) (defs : List (Row Definition)) (rows : List (Row Written)) : Type 0 where
  pub are : AreInStep (IsNoted b said defs) 32 (declared_constants rows) constants.constants.items
  pub places : HasPlaces constants.places (map (λ c. c.name.items) constants.constants.items)

-- each constant so far has a type
abbrev pub AreTyped : Constants → Type 0
AreTyped constants = All (λ c. is_some c.declared ≡ true) constants.constants.items

-- each constant so far has a type if that of its row stands
abbrev pub AreTypedIf : ℕ → Seen → List (Row Written) → Constants → Type 0
AreTypedIf from z rows constants = AreInStep (λ n row c. TypeStands from z row.1.text row.1.raw → is_some c.declared ≡ true) 32 (declared_constants rows) constants.constants.items

-- the abbreviation of a place has a body
abbrev pub IsSettledAt : List Body → ℕ → Type 0
IsSettledAt bodies place = is_some (body_of bodies place) ≡ true

-- each abbreviation that is used has a body
abbrev pub AreUsesSettled : List Body → List Way → Type 0
AreUsesSettled bodies uses = (w : Way) → Contains uses w → IsSettledAt bodies w.1

-- the abbreviation of a place has a body if it stands
abbrev pub IsSettledIf : ℕ → Seen → List Body → ℕ → Type 0
IsSettledIf from z bodies place = BodyStands from z place → IsSettledAt bodies place

-- each does
abbrev pub AreSettledIf : ℕ → Seen → List Body → Type 0
AreSettledIf from z bodies = (place : ℕ) → place < length (abbreviation_names z.said) → IsSettledIf from z bodies place

-- each part so far has a type
abbrev pub AllMade : List (Option TypeId) → Type 0
AllMade done = All (λ o. is_some o ≡ true) done

-- why a declared type is refused: it has more than 255 arguments as written, or a word has a fault, or it has more than 255 type
-- variables behind its abbreviations
pub data IsWrittenFault (text : List ℕ) (said : List (Row Said)) (defs : List (Row Definition)) (ty : RawType) : SigFault → Type 0 where
  long_type : {e : SigFault} → e ≡ fault.Limit limit.Arguments → IsLongType ty.nodes.items ty.root → IsWrittenFault text said defs ty e
  word_of_type : {e : SigFault} → (IsLongType ty.nodes.items ty.root → ⊥) → IsFirstFault text said None ty.nodes.items e → IsWrittenFault text said defs ty e
  many_variables : {e : SigFault} → e ≡ fault.Limit limit.Arguments → IsSoundType text said ty → (count : ℕ) (t : Ty) → IsSchemeOf said defs (written_in text ty) count t → MAX_ARGUMENTS < count → IsWrittenFault text said defs ty e

-- why a name is refused: it is declared with another type, or it is new and no number is left for it
pub data IsConstantFault (said : List (Row Said)) (defs : List (Row Definition)) (rows : List (Row Written)) (name : List ℕ) (t : Ty) (s : Spot) : SigFault → Type 0 where
  other_type : {e : SigFault} → e ≡ fault.Differ s → (first : Ty) → HasType said defs rows name first → first ≢ t → IsConstantFault said defs rows name t s e
  no_number : {e : SigFault} → e ≡ fault.Limit limit.Names → found name standard_constants ≡ None → found name rows ≡ None → END_OF_NUMBERS ≤ 32 + length (declared_constants rows) → IsConstantFault said defs rows name t s e

-- a name is declared with the type with which it is declared first
pub record HasFirstType (said : List (Row Said)) (defs : List (Row Definition)) (all : List (Row Written)) (row : Row Written) : Type 0 where
  pub count : ℕ
  pub tree : Ty
  pub scheme : IsSchemeOf said defs row.1 count tree
  pub first : HasType said defs all row.0 tree

abbrev pub HaveFirstTypes : List (Row Said) → List (Row Definition) → List (Row Written) → List (Row Written) → Type 0
HaveFirstTypes said defs all rows = All (HasFirstType said defs all) rows

-- the type with which a name is declared first stands, where it is no standard one
abbrev pub FirstStands : ℕ → Seen → List (Row Written) → List ℕ → Type 0
FirstStands from z rows name = (w : Written) → found name standard_constants ≡ None → found name rows ≡ Some w → TypeStands from z w.text w.raw

-- a constant is taken, where these are declared before it: it has the type with which its name is declared first, if both stand, and
-- there is a number for it if it is new
pub record IsTakenConstant (from : ℕ) (z : Seen) (rows : List (Row Written)) (row : Row Written) : Type 0 where
  pub typed : TypeStands from z row.1.text row.1.raw → FirstStands from z (rows ++ row ∷ []) row.0 → HasFirstType z.said z.definitions (rows ++ row ∷ []) row
  pub number : TypeStands from z row.1.text row.1.raw → found row.0 standard_constants ≡ None → found row.0 rows ≡ None → 32 + length (declared_constants rows) < END_OF_NUMBERS

-- so are constants, one after the other
abbrev pub AreTakenConstants : ℕ → Seen → List (Row Written) → List (Row Written) → Type 0
AreTakenConstants from z rows [] = Unit {0}
AreTakenConstants from z rows (row ∷ more) = IsTakenConstant from z rows row × AreTakenConstants from z (rows ++ row ∷ []) more

-- a declared type has a tree, with at most 255 type variables
pub record HasFewVariables (said : List (Row Said)) (defs : List (Row Definition)) (w : Written) : Type 0 where
  pub count : ℕ
  pub tree : Ty
  pub scheme : IsSchemeOf said defs w count tree
  pub few : count ≤ MAX_ARGUMENTS

-- the first name of a sentence that is refused
pub record IsFirstConstant (from : ℕ) (text : List ℕ) (z : Seen) (rows : List (Row Written)) (names : List Spot) (w : Written) (e : SigFault) : Type 0 where
  pub type : HasFewVariables z.said z.definitions w
  pub k : ℕ
  pub name : Spot
  pub inside : k < length names
  pub at_name : slice_index_or names k name ≡ name
  pub before : AreTakenConstants from z rows (each text w (take k names))
  pub refused : IsConstantFault z.said z.definitions (rows ++ each text w (take k names)) (spelled text name) type.tree name e

-- why a sentence of constants is refused, where these were declared before it: a long name goes first, then its type, then its names
-- in order
pub data IsConstantsFault (from : ℕ) (text : List ℕ) (z : Seen) (rows : List (Row Written)) (names : List Spot) (ty : RawType) : SigFault → Type 0 where
  long_name : {e : SigFault} → e ≡ fault.Limit limit.NameLength → (s : Spot) → Contains names s → MAX_NAME_BYTES < length (spelled text s) → IsConstantsFault from text z rows names ty e
  bad_type : {e : SigFault} → AreShort text names → IsWrittenFault text z.said z.definitions ty e → IsConstantsFault from text z rows names ty e
  bad_name : {e : SigFault} → AreShort text names → IsSoundType text z.said ty → IsFirstConstant from text z rows names (written_in text ty) e → IsConstantsFault from text z rows names ty e
  no_memory : {e : SigFault} → e ≡ fault.Memory → IsConstantsFault from text z rows names ty e

-- a name is declared so far
abbrev pub IsDeclared : List ℕ → List (Row Written) → Type 0
IsDeclared name rows = (is_among name (names_in standard_constants) || is_among name (names_in rows)) ≡ true

-- what is known of a name: it is new, or its type is missing, or it has this type
abbrev pub IsKnownAs : Nodes → List (Row Said) → List (Row Definition) → List (Row Written) → List ℕ → Known → Type 0
IsKnownAs b said defs rows name known.New = (found name standard_constants ≡ None) × (found name rows ≡ None)
IsKnownAs b said defs rows name known.Untyped = IsDeclared name rows
IsKnownAs b said defs rows name (known.Typed t) = (t.0 < length b.types) × HasType said defs rows name (type_tree b t.0)

-- a type of the bank that is declared here, if there is one
abbrev pub IfTyped : Option DeclaredType → (DeclaredType → Type 0) → Type 0
IfTyped o P = (d : DeclaredType) → o ≡ Some d → P d
