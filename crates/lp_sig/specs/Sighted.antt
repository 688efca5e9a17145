-- What is made of the kinds, types and constants of a signature that is seen: kinds have the numbers of their names, types are the same by these names, and constants are known with them.
use Rattle.std.specs.Prelude.{◌≡◌, ◌+◌, ◌<◌, ◌≤◌, ◌⊎◌, ℕ, List, [], ◌∷◌, ◌++◌, length, nat_eq, false, Some, slice_get, Contains, All}
use Rattle.indexmap.specs.IndexMap.{IndexMap, get}
use Rattle.lp_base.specs.declared.limits.TheConstants.{END_OF_NUMBERS}
use Rattle.lp_calculus.specs.Types.{Ty}
use Rattle.lp_term.specs.Nodes.{Nodes, Extends, type_tree}
use Rattle.lp_term.specs.declared.node.TypeId.{TypeId}
use Rattle.lp_sig.specs.Rows.{Row, found}
use Rattle.lp_sig.specs.Said.{Said, a_kind, names_in, kinds_among, declared_names}
use Rattle.lp_sig.specs.Schemes.{first_variables}
use Rattle.lp_sig.specs.Standard.{standard_constants}
use Rattle.lp_sig.specs.Words.{meaning_of}
use Rattle.lp_sig.specs.Constants.{standard_tree}
use Rattle.lp_sig.specs.Worded.{is_met_word}
use Rattle.lp_sig.specs.Named.{named, kind_name, named_in}
use Rattle.lp_sig.specs.declared.entries.ConstantEntry.{ConstantEntry}
use Rattle.lp_sig.specs.declared.constants.Constant.{Constant}
use Rattle.lp_sig.specs.declared.constants.Constants.{Constants}
use Rattle.lp_sig.specs.declared.constants.DeclaredType.{DeclaredType}
use Rattle.lp_sig.specs.declared.constants.Known.{Known}
use Rattle.lp_sig.specs.declared.constants.Known.TheVariants as known
use Rattle.lp_sig.specs.declared.making.Making.{Making}
use Rattle.lp_sig.specs.declared.see.Sight.{Sight}
use Rattle.lp_sig.specs.declared.see.Sight.TheVariants.{Alike}
use Rattle.lp_sig.specs.declared.signature.Signature.{Signature}

-- the names of the kinds of which so much is said
abbrev pub said_kinds : List (Row Said) → List (List ℕ)
said_kinds said = names_in (kinds_among (declared_names said))

-- a name means a kind, and there are numbers for all kinds
pub record IsKind (said : List (Row Said)) (name : List ℕ) : Type 0 where
  pub arity : ℕ
  pub means : meaning_of name said ≡ Some (a_kind arity)
  pub fits : 8 + length (said_kinds said) ≤ END_OF_NUMBERS

-- where a kind that is seen is alike, or is one anyway, its number is that of its name
abbrev pub HasItsNumber : List (Row Said) → (name : List ℕ) → ℕ × Sight → Type 0
HasItsNumber said name r = (r.1 ≡ Alike) ⊎ IsKind said name → kind_name (said_kinds said) r.0 ≡ Some name

-- numbers of kinds there and here have the same names
abbrev pub AreKindsHere : {S : Type 0} → List (Row Said) → (names : List (List ℕ)) → IndexMap ℕ ℕ S → Type 0
AreKindsHere said names kinds = (k n : ℕ) → get nat_eq kinds k ≡ Some n → kind_name (said_kinds said) n ≡ kind_name names k

-- types made here of those of a bank there, in order, are the same by the names of kinds
abbrev pub AreSeenTypes : (there here : Nodes) → (names here_names : List (List ℕ)) → List TypeId → Type 0
AreSeenTypes there here names here_names made =
    (i : ℕ) (t : TypeId) → slice_get made i ≡ Some t → (t.0 < length here.types) × (named (kind_name here_names) (type_tree here t.0) ≡ named (kind_name names) (type_tree there i))

-- constants so far: one of the name has this type, and as many type variables
pub data HasTree (b : Nodes) (c : Constants) (name : List ℕ) (T : Ty) : Type 0 where
  standard_one : (n : ℕ) → found name standard_constants ≡ Some n → T ≡ standard_tree n → HasTree b c name T
  known_one : (k : Constant) → Contains c.constants.items k → k.name.items ≡ name → (d : DeclaredType) → k.declared ≡ Some d → d.scheme.0 < length b.types → type_tree b d.scheme.0 ≡ T → d.type_vars ≡ length (first_variables T) → HasTree b c name T

-- their types stand in the bank, and have as many variables as is said
abbrev pub AreCounted : Nodes → Constants → Type 0
AreCounted b c = (k : Constant) → Contains c.constants.items k → (d : DeclaredType) → k.declared ≡ Some d → (d.scheme.0 < length b.types) × (d.type_vars ≡ length (first_variables (type_tree b d.scheme.0)))

-- more of them stand behind
abbrev pub GrowsBehind : Constants → Constants → Type 0
GrowsBehind old new = (more : List Constant) × (new.constants.items ≡ old.constants.items ++ more)

-- one more stands behind
abbrev pub PutsBehind : Constants → Constants → (name : List ℕ) → DeclaredType → Type 0
PutsBehind old new name d = (k : Constant) × (k.name.items ≡ name) × (k.declared ≡ Some d) × (new.constants.items ≡ old.constants.items ++ k ∷ [])

-- what is known of a name is the type of a constant
abbrev pub IsTreeOf : Nodes → Constants → (name : List ℕ) → Known → Type 0
IsTreeOf b c name known.New = Unit {0}
IsTreeOf b c name known.Untyped = Unit {0}
IsTreeOf b c name (known.Typed t) = HasTree b c name (type_tree b t.0)

-- a constant that is seen with this type: it stands in the bank, and has as many variables as is said
abbrev pub IsCountedEntry : Nodes → List TypeId → ConstantEntry → Type 0
IsCountedEntry b made e = (t : TypeId) → slice_get made e.scheme.0 ≡ Some t → (t.0 < length b.types) × (e.type_vars ≡ length (first_variables (type_tree b t.0)))

-- it is known with this type
abbrev pub IsSeenEntry : Nodes → Constants → List TypeId → ConstantEntry → Type 0
IsSeenEntry b c made e = (t : TypeId) → slice_get made e.scheme.0 ≡ Some t → HasTree b c e.name.items (type_tree b t.0)

-- none of these names is known
abbrev pub AreNew : List (List ℕ) → List ConstantEntry → Type 0
AreNew words [] = Unit {0}
AreNew words (e ∷ es) = (is_met_word e.name.items words ≡ false) × AreNew (words ++ e.name.items ∷ []) es

-- the constants of a signature are known, with its types by the names of kinds
abbrev pub SeenSo : Making → List (Row Said) → Signature → Type 0
SeenSo making said u =
    (e : ConstantEntry) → Contains u.constants.items e → (T : Ty) × HasTree making.bodies.types.bank making.constants e.name.items T × (named (kind_name (said_kinds said)) T ≡ named_in u e.scheme)

-- each of these names means a kind
abbrev pub AreKinds : List (Row Said) → List (List ℕ) → Type 0
AreKinds said names = All (IsKind said) names

-- types stay in their bank, and more constants stand behind
pub record Grows (old new : Making) : Type 0 where
  pub bank : Extends old.bodies.types.bank new.bodies.types.bank
  pub constants : GrowsBehind old.constants new.constants
