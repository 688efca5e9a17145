-- The tree of a type as written, under all that was said, with abbreviations replaced by their bodies.
use Rattle.std.specs.Global.{Global}
use Rattle.std.specs.Prelude.{◌≡◌, ℕ, zero, suc, ◌<◌, min, List, [], ◌∷◌, ◌++◌, true, false, Option, Some, None, map, option_map, length, Vec, slice_index_or, All}
use Rattle.lp_base.specs.declared.place.Spot.{Spot}
use Rattle.lp_calculus.specs.Types.{Ty, var, con, arrow, tys, instance}
use Rattle.lp_syntax.specs.declared.text.Declaration.{Declaration}
use Rattle.lp_syntax.specs.declared.text.Declaration.TheVariants.{Kinds, LocalKinds, Constants, Locals, Abbreviation, Accumulate, AccumSig, Fixities}
use Rattle.lp_syntax.specs.declared.text.RawType.{RawType}
use Rattle.lp_syntax.specs.declared.text.RawTypeNode.{RawTypeNode}
use Rattle.lp_syntax.specs.declared.text.RawTypeNode.TheVariants as node
use Rattle.lp_sig.specs.Pieces.{spelled, begins_variable}
use Rattle.lp_sig.specs.Places.{first_place}
use Rattle.lp_sig.specs.Rows.{Row, found}
use Rattle.lp_sig.specs.Standard.{standard_kinds}
use Rattle.lp_sig.specs.Said.{Said, a_kind, an_abbreviation}
use Rattle.lp_sig.specs.Limits.{AreApart}
use Rattle.lp_sig.specs.Words.{meaning_of, number_said}

-- the number of a kind: that of a standard name, else that of its place among the declared ones, as far as its type goes
abbrev pub one_or : Option ℕ → Option ℕ → Option ℕ
one_or None o = o
one_or (Some n) o = Some n

unfoldable pub kind_number_of : List ℕ → List (Row Said) → Option ℕ
kind_number_of name said = one_or (option_map (λ r. r.0) (found name standard_kinds)) (option_map (λ n. min n 4294967295) (number_said name said))

-- what an abbreviation is declared as: its parameters and its body, with the text in which they stand; or its body as a tree, where a
-- signature has it
pub data Definition : Type 0 where
  in_text : (text : List ℕ) → (parameters : List Spot) → (body : RawType) → Definition
  as_tree : (tree : Ty) → Definition

abbrev pub definitions_by : List ℕ → Declaration → List (Row Definition)
definitions_by text (Kinds ns n) = []
definitions_by text (LocalKinds ns n) = []
definitions_by text (Constants ns ty) = []
definitions_by text (Locals ns ty) = []
definitions_by text (Abbreviation name ps ty) = (spelled text name, in_text text ps.items ty) ∷ []
definitions_by text (Accumulate words) = []
definitions_by text (AccumSig words) = []
definitions_by text (Fixities ns f n) = []

abbrev pub definitions_in : List ℕ → List Declaration → List (Row Definition)
definitions_in text [] = []
definitions_in text (d ∷ ds) = definitions_by text d ++ definitions_in text ds

-- the types for the variables of a body; a variable without one stays
abbrev pub given_for : List Ty → ℕ → Ty → Ty
given_for [] n d = d
given_for (t ∷ ts) zero d = t
given_for (t ∷ ts) (suc n) d = given_for ts n d

abbrev pub on_arguments : List Ty → Ty → Ty
on_arguments ts body = instance (λ n. given_for ts n (var n)) body

-- the number of a variable word at a node: that of the first parameter of its name
abbrev pub by_parameters : List ℕ → List Spot → ℕ → Spot → Option ℕ
by_parameters text ps i s = first_place (spelled text s) (map (λ p. spelled text p) ps)

abbrev pub IsNode : List RawTypeNode → ℕ → RawTypeNode → Type 0
IsNode nodes i n = (i < length nodes) × (slice_index_or nodes i n ≡ n)

-- the tree of a node of a type, under what is said of names and what abbreviations are declared as; a variable word has a number
-- by its node. A variable is this variable; a kind is its constructor on the trees of its arguments; an abbreviation, no parameter of
-- which stands twice, is the tree of its first body, whose variables are numbered by its parameters, with the trees of its arguments
-- for them.
mutual
  pub data IsTypeOf (said : List (Row Said)) (defs : List (Row Definition)) : List ℕ → (ℕ → Spot → Option ℕ) → List RawTypeNode → ℕ → Ty → Type 0 where
    a_variable : {text : List ℕ} {ν : ℕ → Spot → Option ℕ} {nodes : List RawTypeNode} {i : ℕ} {t : Ty} → (s : Spot) → (args : Vec ℕ Global) → (n : ℕ) → IsNode nodes i (node.Word s args) → begins_variable (spelled text s) ≡ true →
        ν i s ≡ Some n → t ≡ var n → IsTypeOf said defs text ν nodes i t
    kind_on : {text : List ℕ} {ν : ℕ → Spot → Option ℕ} {nodes : List RawTypeNode} {i : ℕ} {t : Ty} → (s : Spot) → (args : Vec ℕ Global) → (k : ℕ) → (ts : List Ty) → IsNode nodes i (node.Word s args) → begins_variable (spelled text s) ≡ false →
        meaning_of (spelled text s) said ≡ Some (a_kind (length args.items)) → kind_number_of (spelled text s) said ≡ Some k → AreTypesOf said defs text ν nodes args.items ts → t ≡ con k (tys ts) → IsTypeOf said defs text ν nodes i t
    abbreviation_on : {text : List ℕ} {ν : ℕ → Spot → Option ℕ} {nodes : List RawTypeNode} {i : ℕ} {t : Ty} → (s : Spot) → (args : Vec ℕ Global) → (d : Definition) → (body : Ty) → (ts : List Ty) → IsNode nodes i (node.Word s args) →
        begins_variable (spelled text s) ≡ false → meaning_of (spelled text s) said ≡ Some (an_abbreviation (length args.items)) → found (spelled text s) defs ≡ Some d →
        IsBodyOf said defs d body → AreTypesOf said defs text ν nodes args.items ts → t ≡ on_arguments ts body → IsTypeOf said defs text ν nodes i t
    an_arrow : {text : List ℕ} {ν : ℕ → Spot → Option ℕ} {nodes : List RawTypeNode} {i : ℕ} {t : Ty} → (a b : ℕ) → (x y : Ty) → IsNode nodes i (node.Arrow a b) → IsTypeOf said defs text ν nodes a x → IsTypeOf said defs text ν nodes b y →
        t ≡ arrow x y → IsTypeOf said defs text ν nodes i t

  pub data AreTypesOf (said : List (Row Said)) (defs : List (Row Definition)) : List ℕ → (ℕ → Spot → Option ℕ) → List RawTypeNode → List ℕ → List Ty → Type 0 where
    no_more : {text : List ℕ} {ν : ℕ → Spot → Option ℕ} {nodes : List RawTypeNode} {places : List ℕ} {ts : List Ty} → places ≡ [] → ts ≡ [] → AreTypesOf said defs text ν nodes places ts
    one_more : {text : List ℕ} {ν : ℕ → Spot → Option ℕ} {nodes : List RawTypeNode} {places : List ℕ} {ts : List Ty} → (i : ℕ) → (more : List ℕ) → (t : Ty) → (us : List Ty) → places ≡ i ∷ more → ts ≡ t ∷ us →
        IsTypeOf said defs text ν nodes i t → AreTypesOf said defs text ν nodes more us → AreTypesOf said defs text ν nodes places ts

  -- the body of a definition, no parameter of which stands twice
  pub data IsBodyOf (said : List (Row Said)) (defs : List (Row Definition)) : Definition → Ty → Type 0 where
    written_body : {d : Definition} {t : Ty} → (text : List ℕ) → (ps : List Spot) → (ty : RawType) → d ≡ in_text text ps ty → AreApart text ps → IsTypeOf said defs text (by_parameters text ps) ty.nodes.items ty.root t → IsBodyOf said defs d t
    given_body : {d : Definition} {t : Ty} → (tree : Ty) → d ≡ as_tree tree → t ≡ tree → IsBodyOf said defs d t

-- the tree of what a name is declared as
pub record HasBody (said : List (Row Said)) (defs : List (Row Definition)) (name : List ℕ) (t : Ty) : Type 0 where
  pub definition : Definition
  pub declared : found name defs ≡ Some definition
  pub is : IsBodyOf said defs definition t

-- a definition is that of a tree
abbrev pub IsOfTree : List (Row Said) → List (Row Definition) → Definition → Ty → Type 0
IsOfTree said defs (in_text text ps ty) t = IsTypeOf said defs text (by_parameters text ps) ty.nodes.items ty.root t
IsOfTree said defs (as_tree u) t = t ≡ u

-- what a name is declared as here has the tree of what it is declared as first
pub record IsAlike (said : List (Row Said)) (defs : List (Row Definition)) (name : List ℕ) (d : Definition) : Type 0 where
  pub tree : Ty
  pub first : HasBody said defs name tree
  pub here : IsOfTree said defs d tree

abbrev pub AreAlike : List (Row Said) → List (Row Definition) → List (Row Definition) → Type 0
AreAlike said defs rows = All (λ r. IsAlike said defs r.0 r.1) rows
