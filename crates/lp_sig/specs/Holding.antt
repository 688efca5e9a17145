-- What the tables of types hold: trees of the nodes of a type so far, and the bodies of abbreviations.
use Rattle.std.specs.Prelude.{is_some, ◌≡◌, ℕ, ◌<◌, List, map, true, Option, Some, None, length, slice_get, slice_index_or, Vec, codes, if◌then◌else◌}
use Rattle.std.specs.Global.{Global}
use Rattle.std.specs.Str.{bytes_eq}
use Rattle.lp_base.specs.declared.place.Spot.{Spot}
use Rattle.lp_calculus.specs.Types.{Ty}
use Rattle.lp_term.specs.Nodes.{Nodes, type_tree}
use Rattle.lp_term.specs.declared.node.TypeId.{TypeId}
use Rattle.lp_syntax.specs.declared.text.Declaration.{Declaration}
use Rattle.lp_syntax.specs.declared.text.Declaration.TheVariants as declaration
use Rattle.lp_syntax.specs.declared.text.Sentence.{Sentence}
use Rattle.lp_syntax.specs.declared.text.Sentence.TheVariants as sentence
use Rattle.lp_syntax.specs.declared.text.RawType.{RawType}
use Rattle.lp_syntax.specs.declared.text.RawTypeNode.{RawTypeNode}
use Rattle.lp_syntax.specs.declared.text.RawTypeNode.TheVariants as node
use Rattle.lp_sig.specs.Pieces.{spelled}
use Rattle.lp_sig.specs.Places.{first_place}
use Rattle.lp_sig.specs.Rows.{Row, found}
use Rattle.lp_sig.specs.Said.{Said, is_among, names_in}
use Rattle.lp_sig.specs.Knowing.{Knows, number_of}
use Rattle.lp_sig.specs.Loading.{Way}
use Rattle.lp_sig.specs.Abbreviations.{abbreviation_names, Seen, KnowsUses, Text, seen_after}
use Rattle.lp_sig.specs.Types.{Definition, in_text, IsTypeOf, HasBody, on_arguments, one_or, AreAlike}
use Rattle.lp_sig.specs.declared.bodies.Body.{Body}
use Rattle.lp_sig.specs.declared.names.Names.{Names}
use Rattle.lp_sig.specs.declared.making.Making.{Making}
use Rattle.lp_sig.specs.declared.names.Meaning.{Meaning}
use Rattle.lp_sig.specs.declared.names.Meaning.TheVariants as meaning
use Rattle.lp_sig.specs.declared.expand.Variables.{Variables}
use Rattle.lp_sig.specs.declared.expand.Made.{Made}
use Rattle.lp_sig.specs.declared.expand.Made.TheVariants as made

-- the number that a variable is given: a new one for each `_` and for each new name of a declared type
unfoldable pub given_number : Variables → List ℕ → Option ℕ
given_number v name = if v.closed then number_of v name else (if bytes_eq name (codes "_") then Some v.next else one_or (number_of v name) (Some v.next))

-- the variables are these parameters
abbrev pub AreParameters : Variables → List ℕ → List Spot → Type 0
AreParameters v text ps = (v.closed ≡ true) × ((name : List ℕ) → number_of v name ≡ first_place name (map (λ p. spelled text p) ps))

-- a kind has this number
abbrev pub HasNumber : Option ℕ → Meaning → Type 0
HasNumber o (meaning.Kind number count) = o ≡ Some number
HasNumber o (meaning.Abbreviation place) = Unit {0}

-- the type at a place, if there is one
abbrev pub type_done : List (Option TypeId) → ℕ → Option TypeId
type_done done i = slice_index_or done i None

abbrev pub body_of : List Body → ℕ → Option TypeId
body_of bodies i = slice_index_or (map (λ b. b.body) bodies) i None

-- a type of the bank with this property of its tree
abbrev pub IsTree : Nodes → (Ty → Type 0) → TypeId → Type 0
IsTree b P id = (id.0 < length b.types) × P (type_tree b id.0)

-- each type that is done has the tree of its node
abbrev pub AreDone : Nodes → List (Row Said) → List (Row Definition) → List ℕ → (ℕ → Spot → Option ℕ) → List RawTypeNode → List (Option TypeId) → Type 0
AreDone b said defs text ν nodes done = (i : ℕ) (id : TypeId) → type_done done i ≡ Some id → IsTree b (IsTypeOf said defs text ν nodes i) id

-- each body that is settled is that of its name
abbrev pub HoldsBodies : Nodes → List Body → List (Row Said) → List (Row Definition) → Type 0
HoldsBodies b bodies said defs = (name : List ℕ) (place : ℕ) (id : TypeId) → first_place name (abbreviation_names said) ≡ Some place → body_of bodies place ≡ Some id → IsTree b (HasBody said defs name) id

abbrev pub IfType : Made → (TypeId → Type 0) → Type 0
IfType (made.Type id) P = P id
IfType made.Open P = Unit {0}
IfType made.Unknown P = Unit {0}
IfType made.Arity P = Unit {0}

-- an abbreviation on its arguments
pub record IsReplaced (old new : Nodes) (said : List (Row Said)) (defs : List (Row Definition)) (name : List ℕ) (done : List (Option TypeId)) (places : List ℕ) (id : TypeId) : Type 0 where
  pub inside : id.0 < length new.types
  pub body : Ty
  pub declared : HasBody said defs name body
  pub parts : List TypeId
  pub are : map (type_done done) places ≡ map (λ t. Some t) parts
  pub tree : type_tree new id.0 ≡ on_arguments (map (λ t. type_tree old t.0) parts) body

-- a variable word at a node of a type has this number
abbrev pub IsNumbered : (ℕ → Spot → Option ℕ) → (List ℕ → Option ℕ) → List ℕ → ℕ → RawTypeNode → Type 0
IsNumbered ν given text i (node.Word s args) = (n : ℕ) → given (spelled text s) ≡ Some n → ν i s ≡ Some n
IsNumbered ν given text i (node.Arrow a b) = Unit {0}

-- the declaration of a line
abbrev pub line_of_text : List Declaration → ℕ → Option Declaration
line_of_text lines i = slice_get lines i

abbrev pub declared_by_sentence : Option Sentence → Option Declaration
declared_by_sentence None = None
declared_by_sentence (Some (sentence.Declares d)) = Some d
declared_by_sentence (Some (sentence.Says t)) = None

abbrev pub line_of_module : List Sentence → ℕ → Option Declaration
line_of_module lines i = declared_by_sentence (slice_get lines i)

-- the line at which the abbreviation of a place is declared, while its text is at work
abbrev pub line_at : List Body → ℕ → Option ℕ
line_at bodies i = slice_index_or (map (λ b. b.line) bodies) i None

-- each such line declares its name first
abbrev pub HoldsLines : List Body → List (Row Said) → List (Row Definition) → List ℕ → (ℕ → Option Declaration) → Type 0
HoldsLines bodies said defs text declared = (name : List ℕ) (place line : ℕ) (s : Spot) (ps : Vec Spot Global) (ty : RawType) → first_place name (abbreviation_names said) ≡ Some place → line_at bodies place ≡ Some line →
    declared line ≡ Some (declaration.Abbreviation s ps ty) → found name defs ≡ Some (in_text text ps.items ty)

-- the definition of a line
abbrev pub IsLine : List ℕ → Option Declaration → Definition → Type 0
IsLine text d definition = (s : Spot) × (ps : Vec Spot Global) × (ty : RawType) × (d ≡ Some (declaration.Abbreviation s ps ty)) × (definition ≡ in_text text ps.items ty)

-- the bodies so far, with the lines of the text at work
pub record KnowsBodies (b : Nodes) (bodies : List Body) (said : List (Row Said)) (defs : List (Row Definition)) (text : List ℕ) (declared : ℕ → Option Declaration) : Type 0 where
  pub holds : HoldsBodies b bodies said defs
  pub lines : HoldsLines bodies said defs text declared
  pub count : length bodies ≡ length (abbreviation_names said)
  pub told : (n : List ℕ) → is_among n (names_in defs) ≡ true → is_among n (names_in said) ≡ true

-- the bodies between two texts, where no line is at work
pub record KnowsTypes (b : Nodes) (bodies : List Body) (z : Seen) : Type 0 where
  pub holds : HoldsBodies b bodies z.said z.definitions
  pub count : length bodies ≡ length (abbreviation_names z.said)
  pub told : (n : List ℕ) → is_among n (names_in z.definitions) ≡ true → is_among n (names_in z.said) ≡ true
  pub no_line : (i : ℕ) → line_at bodies i ≡ None

-- the tables by which a sentence is judged hold all that is seen
pub record Sees (names : Names) (ways : List (List Way)) (b : Nodes) (bodies : List Body) (z : Seen) : Type 0 where
  pub known : Knows names z.said
  pub uses : KnowsUses ways z
  pub holds : HoldsBodies b bodies z.said z.definitions

-- the same between two texts, where each abbreviation has a body, and each of its sentences this one
pub record KnowsSeen (making : Making) (z : Seen) : Type 0 where
  pub names : Knows making.names z.said
  pub uses : KnowsUses (map (λ out. out.items) making.uses.ways.items) z
  pub types : KnowsTypes making.bodies.types.bank making.bodies.bodies.items z
  pub settled : (place : ℕ) → place < length making.bodies.bodies.items → is_some (body_of making.bodies.bodies.items place) ≡ true
  pub alike : AreAlike z.said z.definitions z.definitions

-- behind these texts so much more is known
abbrev pub Follows : Making → Making → List Text → Type 0
Follows old new ts = (z : Seen) → KnowsSeen old z → KnowsSeen new (seen_after z ts)
