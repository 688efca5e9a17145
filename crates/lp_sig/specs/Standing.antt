-- Which abbreviations of a text stand, and which types do with them: a type that leads to one at fault is told nothing of before
-- the fault itself is.
use Rattle.std.specs.Prelude.{◌≡◌, ◌≤◌, ℕ, List, Some, Contains, length}
use Rattle.lp_base.specs.declared.place.Spot.{Spot}
use Rattle.lp_syntax.specs.declared.text.RawType.{RawType}
use Rattle.lp_sig.specs.Places.{first_place}
use Rattle.lp_sig.specs.Rows.{found}
use Rattle.lp_sig.specs.Limits.{AreApart}
use Rattle.lp_sig.specs.Words.{WordsStand, parameters_of}
use Rattle.lp_sig.specs.Loading.{Way, LeadsTo, HasNoCircle}
use Rattle.lp_sig.specs.Types.{in_text}
use Rattle.lp_sig.specs.Abbreviations.{Seen, abbreviation_names, uses_in, all_uses}

-- what the abbreviation of a place is declared as stands: no parameter stands twice, its words have no fault, and it does not lead
-- back
pub record DefinitionStands (z : Seen) (place : ℕ) (text : List ℕ) (ps : List Spot) (ty : RawType) : Type 0 where
  pub apart : AreApart text ps
  pub words : WordsStand text z.said (parameters_of text ps) ty.nodes.items
  pub ends : HasNoCircle (all_uses z) place

abbrev pub Stands : Seen → ℕ → Type 0
Stands z place = (name text : List ℕ) (ps : List Spot) (ty : RawType) → first_place name (abbreviation_names z.said) ≡ Some place → found name z.definitions ≡ Some (in_text text ps ty) → DefinitionStands z place text ps ty

-- how many abbreviations were seen. Those that were seen before a text was are taken, so only those behind them can be at fault.
abbrev pub seen_count : Seen → ℕ
seen_count z = length (abbreviation_names z.said)

-- each abbreviation from a place on stands
abbrev pub AllStand : ℕ → Seen → Type 0
AllStand from z = (place : ℕ) → from ≤ place → Stands z place

-- each of them to which an abbreviation leads stands, itself among them
abbrev pub BodyStands : ℕ → Seen → ℕ → Type 0
BodyStands from z place = (i : ℕ) → LeadsTo (all_uses z) place i → from ≤ i → Stands z i

-- each to which the words of a type lead stands
abbrev pub TypeStands : ℕ → Seen → List ℕ → RawType → Type 0
TypeStands from z text ty = (w : Way) → Contains (uses_in (abbreviation_names z.said) text ty.nodes.items) w → BodyStands from z w.1
