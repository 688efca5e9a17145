-- The abbreviations of the text at work: where each is declared, and that it can be settled.
use Rattle.std.specs.Global.{Global}
use Rattle.std.specs.Prelude.{◌≡◌, ◌<◌, ◌≤◌, ℕ, List, length, Contains, Option, Some, Vec}
use Rattle.lp_base.specs.declared.place.Spot.{Spot}
use Rattle.lp_syntax.specs.declared.text.Declaration.{Declaration}
use Rattle.lp_syntax.specs.declared.text.Declaration.TheVariants as declaration
use Rattle.lp_syntax.specs.declared.text.RawType.{RawType}
use Rattle.lp_sig.specs.Pieces.{spelled}
use Rattle.lp_sig.specs.Places.{first_place}
use Rattle.lp_sig.specs.Rows.{Row}
use Rattle.lp_sig.specs.Said.{Said}
use Rattle.lp_sig.specs.Limits.{AreApart}
use Rattle.lp_sig.specs.Words.{WordsStand, parameters_of}
use Rattle.lp_sig.specs.Loading.{Way, ways_out}
use Rattle.lp_sig.specs.Abbreviations.{Seen, abbreviation_names, uses_in, all_uses}
use Rattle.lp_sig.specs.Holding.{line_at}
use Rattle.lp_sig.specs.declared.bodies.Body.{Body}

-- the line at which the abbreviation of a place is declared first
pub record IsAnnounced (bodies : List Body) (said : List (Row Said)) (text : List ℕ) (declared : ℕ → Option Declaration) (place : ℕ) : Type 0 where
  pub line : ℕ
  pub at_line : line_at bodies place ≡ Some line
  pub name : Spot
  pub parameters : Vec Spot Global
  pub body : RawType
  pub declares : declared line ≡ Some (declaration.Abbreviation name parameters body)
  pub its_place : first_place (spelled text name) (abbreviation_names said) ≡ Some place

-- so is each from a place on
abbrev pub AreAnnounced : ℕ → List Body → List (Row Said) → List ℕ → (ℕ → Option Declaration) → Type 0
AreAnnounced from bodies said text declared = (place : ℕ) → from ≤ place → place < length bodies → IsAnnounced bodies said text declared place

-- this sentence has no fault of its own, and its body uses what the place does
pub record CanBeSettled (bodies : List Body) (said : List (Row Said)) (uses : List (List Way)) (text : List ℕ) (declared : ℕ → Option Declaration) (place : ℕ) : Type 0 where
  pub announced : IsAnnounced bodies said text declared place
  pub apart : AreApart text announced.parameters.items
  pub words : WordsStand text said (parameters_of text announced.parameters.items) announced.body.nodes.items
  pub are : ways_out uses place ≡ uses_in (abbreviation_names said) text announced.body.nodes.items

-- a place uses abbreviations that were seen
abbrev pub HasUsesInside : Seen → ℕ → Type 0
HasUsesInside z place = (w : Way) → Contains (ways_out (all_uses z) place) w → w.1 < length (abbreviation_names z.said)
