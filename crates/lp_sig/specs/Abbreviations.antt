-- Which abbreviations the body of each names, and where that leads in a circle.
use Rattle.std.specs.Prelude.{◌≡◌, ℕ, List, [], ◌∷◌, ◌++◌, true, Option, Some, None, map, Contains, if◌then◌else◌}
use Rattle.std.specs.Str.{bytes_eq}
use Rattle.lp_base.specs.declared.place.Spot.{Spot}
use Rattle.lp_syntax.specs.declared.text.Declaration.{Declaration}
use Rattle.lp_syntax.specs.declared.text.Declaration.TheVariants.{Kinds, LocalKinds, Constants, Locals, Abbreviation, Accumulate, AccumSig, Fixities}
use Rattle.lp_syntax.specs.declared.text.RawTypeNode.{RawTypeNode}
use Rattle.lp_syntax.specs.declared.text.RawTypeNode.TheVariants.{Word, Arrow}
use Rattle.lp_sig.specs.Pieces.{spelled, begins_variable}
use Rattle.lp_sig.specs.Places.{first_place}
use Rattle.lp_sig.specs.Rows.{Row}
use Rattle.lp_sig.specs.Said.{Said, an_abbreviation, is_among, names_in, declared_names, abbreviations_among, said_by, said_in}
use Rattle.lp_sig.specs.Loading.{Way, ways_in, LeadsTo}
use Rattle.lp_sig.specs.Types.{Definition, definitions_in}
use Rattle.lp_sig.specs.declared.names.Meaning.{Meaning}
use Rattle.lp_sig.specs.declared.names.Meaning.TheVariants.{Kind, Abbreviation as AtPlace}

-- the names that are declared as abbreviations, in the order of their first declarations
abbrev pub abbreviation_names : List (Row Said) → List (List ℕ)
abbreviation_names said = names_in (abbreviations_among (declared_names said))

-- the words of a type that are no variables
abbrev pub type_names : List ℕ → List RawTypeNode → List Spot
type_names text [] = []
type_names text (Word s args ∷ ns) = (if begins_variable (spelled text s) then [] else s ∷ []) ++ type_names text ns
type_names text (Arrow a b ∷ ns) = type_names text ns

-- the words of a body that are among these names of abbreviations, with their places
abbrev pub uses_in : List (List ℕ) → List ℕ → List RawTypeNode → List Way
uses_in names text nodes = ways_in names text (type_names text nodes)

-- what has been seen so far: what is said of names, what abbreviations are declared as, and for each sentence of typeabbrev its
-- name with what its body uses
pub record Seen : Type 0 where
  pub said : List (Row Said)
  pub definitions : List (Row Definition)
  pub bodies : List (Row (List Way))

abbrev pub nothing_seen : Seen
nothing_seen = record { said = []; definitions = []; bodies = [] }

abbrev pub bodies_by : List (List ℕ) → List ℕ → Declaration → List (Row (List Way))
bodies_by names text (Kinds ns n) = []
bodies_by names text (LocalKinds ns n) = []
bodies_by names text (Constants ns ty) = []
bodies_by names text (Locals ns ty) = []
bodies_by names text (Abbreviation name ps ty) = (spelled text name, uses_in names text ty.nodes.items) ∷ []
bodies_by names text (Accumulate words) = []
bodies_by names text (AccumSig words) = []
bodies_by names text (Fixities ns f n) = []

abbrev pub bodies_in : List (List ℕ) → List ℕ → List Declaration → List (Row (List Way))
bodies_in names text [] = []
bodies_in names text (d ∷ ds) = bodies_by names text d ++ bodies_in names text ds

-- a text is seen as a whole: its words mean what is said up to its end
abbrev pub seen_text : Seen → List ℕ → List Declaration → Seen
seen_text z text lines =
    record { said = z.said ++ said_in text lines; definitions = z.definitions ++ definitions_in text lines; bodies = z.bodies ++ bodies_in (abbreviation_names (z.said ++ said_in text lines)) text lines }

-- what the body of an abbreviation uses: that of its first declaration
abbrev pub uses_of : List (Row (List Way)) → List ℕ → List Way
uses_of [] name = []
uses_of (b ∷ bs) name = if bytes_eq name b.0 then b.1 else uses_of bs name

abbrev pub all_uses : Seen → List (List Way)
all_uses z = map (uses_of z.bodies) (abbreviation_names z.said)

-- a body leads back to the name for which it stands
pub record LeadsBack (names : List (List ℕ)) (uses : List (List Way)) (text : List ℕ) (name : Spot) (nodes : List RawTypeNode) : Type 0 where
  pub place : ℕ
  pub declared : first_place (spelled text name) names ≡ Some place
  pub way : Way
  pub word : Contains (uses_in names text nodes) way
  pub leads : LeadsTo uses way.1 place

-- texts one after the other: the bytes and the declarations of each
abbrev pub Text : Type 0
Text = List ℕ × List Declaration

abbrev pub one_text : List ℕ → List Declaration → List Text
one_text text lines = (text, lines) ∷ []

abbrev pub seen_after : Seen → List Text → Seen
seen_after z [] = z
seen_after z (t ∷ ts) = seen_after (seen_text z t.0 t.1) ts

-- the place of an abbreviation that a name means
abbrev pub place_meant : Option Meaning → Option ℕ
place_meant None = None
place_meant (Some (Kind number arity)) = None
place_meant (Some (AtPlace place)) = Some place

-- one more declaration, where the names of abbreviations are these; of definitions nothing is said
abbrev pub seen_line : List (List ℕ) → Seen → List ℕ → Declaration → Seen
seen_line names z text line = record { said = z.said ++ said_by text line; definitions = z.definitions; bodies = z.bodies ++ bodies_by names text line }

abbrev pub one_body : Seen → List ℕ → ℕ → List Way → Seen
one_body z name p uses = record { said = z.said ++ (name, an_abbreviation p) ∷ []; definitions = z.definitions; bodies = z.bodies ++ (name, uses) ∷ [] }

-- a list of uses is that of all abbreviations that were seen, each of which has a body
pub record KnowsUses (uses : List (List Way)) (z : Seen) : Type 0 where
  pub are : uses ≡ all_uses z
  pub has : (n : List ℕ) → is_among n (abbreviation_names z.said) ≡ true → is_among n (names_in z.bodies) ≡ true
  pub said : (n : List ℕ) → is_among n (names_in z.bodies) ≡ true → is_among n (names_in z.said) ≡ true
