-- Why a sentence is refused, and what holds of one that is taken, under all that is seen up to the end of its text.
use Rattle.std.specs.Prelude.{◌≡◌, ℕ, ◌<◌, List, length, All, Some}
use Rattle.lp_base.specs.declared.limits.TheConstants.{MAX_ARGUMENTS}
use Rattle.lp_base.specs.declared.limit.Limit.TheVariants as limit
use Rattle.lp_base.specs.declared.place.Spot.{Spot}
use Rattle.lp_calculus.specs.Types.{Ty}
use Rattle.lp_syntax.specs.declared.text.Declaration.{Declaration}
use Rattle.lp_syntax.specs.declared.text.Declaration.TheVariants.{Kinds, LocalKinds, Constants, Locals, Abbreviation, Accumulate, AccumSig, Fixities}
use Rattle.lp_syntax.specs.declared.text.RawType.{RawType}
use Rattle.lp_sig.specs.Pieces.{spelled}
use Rattle.lp_sig.specs.Places.{first_place}
use Rattle.lp_sig.specs.Rows.{Row}
use Rattle.lp_sig.specs.Said.{Said, a_kind, an_abbreviation}
use Rattle.lp_sig.specs.Limits.{AreApart, IsRepeated}
use Rattle.lp_sig.specs.Words.{IsNameFault, IsMeant, AreMeant, AreNumbered, IsHead, IsFirstFault, WordsStand, parameters_of, IsKindsFault, IsSoundType}
use Rattle.lp_sig.specs.Standing.{BodyStands, TypeStands}
use Rattle.lp_sig.specs.Constants.{Written, written_in, HasFewVariables, IsConstantsFault}
use Rattle.lp_sig.specs.Types.{Definition, in_text, IsTypeOf, HasBody, IsAlike, by_parameters}
use Rattle.lp_sig.specs.Abbreviations.{Seen, abbreviation_names, all_uses, LeadsBack}
use Rattle.lp_sig.specs.declared.fault.SigFault.{SigFault}
use Rattle.lp_sig.specs.declared.fault.SigFault.TheVariants as fault

-- a body that has another tree than the first one of its name
pub record HasOtherBody (said : List (Row Said)) (defs : List (Row Definition)) (text : List ℕ) (name : Spot) (ps : List Spot) (ty : RawType) : Type 0 where
  pub first : Ty
  pub here : Ty
  pub declared : HasBody said defs (spelled text name) first
  pub is : IsTypeOf said defs text (by_parameters text ps) ty.nodes.items ty.root here
  pub differ : first ≡ here → ⊥

-- the body of a sentence leads back to its name
abbrev pub IsCyclic : List ℕ → Seen → Spot → RawType → Type 0
IsCyclic text z name ty = LeadsBack (abbreviation_names z.said) (all_uses z) text name ty.nodes.items

-- a name means an abbreviation of so many parameters, and the body does not lead back to it
pub record IsStraight (text : List ℕ) (z : Seen) (name : Spot) (n : ℕ) (ty : RawType) : Type 0 where
  pub meant : IsMeant text z.said (an_abbreviation n) name
  pub ends : IsCyclic text z name ty → ⊥

-- a sentence of typeabbrev but for its body: it does not lead back, and its parameters are apart and at most 255
pub record IsStraightHead (text : List ℕ) (z : Seen) (name : Spot) (ps : List Spot) (ty : RawType) : Type 0 where
  pub head : IsHead text z.said name ps
  pub ends : IsCyclic text z name ty → ⊥

-- why an abbreviation is refused: its name, then a circle, then a parameter that stands a second time, then their number, then the
-- first word of its body that has a fault, then another body than the first one of its name
pub data IsAbbreviationFault (text : List ℕ) (z : Seen) (name : Spot) (ps : List Spot) (ty : RawType) : SigFault → Type 0 where
  a_name : {e : SigFault} → IsNameFault text z.said (an_abbreviation (length ps)) name e → IsAbbreviationFault text z name ps ty e
  circle : {e : SigFault} → e ≡ fault.CyclicAbbreviation name → IsMeant text z.said (an_abbreviation (length ps)) name → IsCyclic text z name ty → IsAbbreviationFault text z name ps ty e
  repeated : {e : SigFault} → (s : Spot) → e ≡ fault.Differ s → IsStraight text z name (length ps) ty → IsRepeated text ps s → IsAbbreviationFault text z name ps ty e
  arguments : {e : SigFault} → e ≡ fault.Limit limit.Arguments → IsStraight text z name (length ps) ty → AreApart text ps → MAX_ARGUMENTS < length ps → IsAbbreviationFault text z name ps ty e
  a_word : {e : SigFault} → IsStraightHead text z name ps ty → IsFirstFault text z.said (parameters_of text ps) ty.nodes.items e → IsAbbreviationFault text z name ps ty e
  other : {e : SigFault} → e ≡ fault.Differ name → IsStraightHead text z name ps ty → WordsStand text z.said (parameters_of text ps) ty.nodes.items → HasOtherBody z.said z.definitions text name ps ty → IsAbbreviationFault text z name ps ty e
  memory : {e : SigFault} → e ≡ fault.Memory → IsAbbreviationFault text z name ps ty e

-- an abbreviation stands: it does not lead back, and its words have no fault
pub record IsSoundAbbreviation (text : List ℕ) (z : Seen) (name : Spot) (ps : List Spot) (ty : RawType) : Type 0 where
  pub straight : IsStraightHead text z name ps ty
  pub words : WordsStand text z.said (parameters_of text ps) ty.nodes.items

-- a sentence of typeabbrev has the body of the first one of its name, if both stand
abbrev pub HasFirstBody : ℕ → List ℕ → Seen → Spot → List Spot → RawType → Type 0
HasFirstBody from text z name ps ty = TypeStands from z text ty → ((place : ℕ) → first_place (spelled text name) (abbreviation_names z.said) ≡ Some place → BodyStands from z place) → IsAlike z.said z.definitions (spelled text name) (in_text text ps ty)

-- why a sentence is refused, where these constants were declared before it, and what holds of one that is taken, but for the names of
-- constants
abbrev pub IsSentenceFault : ℕ → List ℕ → Seen → List (Row Written) → Declaration → SigFault → Type 0
IsSentenceFault from text z rows (Kinds names n) e = IsKindsFault text z.said names.items n e
IsSentenceFault from text z rows (LocalKinds names n) e = e ≡ fault.Memory
IsSentenceFault from text z rows (Constants names ty) e = IsConstantsFault from text z rows names.items ty e
IsSentenceFault from text z rows (Locals names ty) e = e ≡ fault.Memory
IsSentenceFault from text z rows (Abbreviation name ps ty) e = IsAbbreviationFault text z name ps.items ty e
IsSentenceFault from text z rows (Accumulate words) e = e ≡ fault.Memory
IsSentenceFault from text z rows (AccumSig words) e = e ≡ fault.Memory
IsSentenceFault from text z rows (Fixities names f n) e = e ≡ fault.Memory

abbrev pub IsSound : ℕ → List ℕ → Seen → Declaration → Type 0
IsSound from text z (Kinds names n) = AreMeant text z.said (a_kind n) names.items × AreNumbered text z.said names.items
IsSound from text z (LocalKinds names n) = Unit {0}
IsSound from text z (Constants names ty) = IsSoundType text z.said ty × (TypeStands from z text ty → HasFewVariables z.said z.definitions (written_in text ty))
IsSound from text z (Locals names ty) = Unit {0}
IsSound from text z (Abbreviation name ps ty) = IsSoundAbbreviation text z name ps.items ty × HasFirstBody from text z name ps.items ty
IsSound from text z (Accumulate words) = Unit {0}
IsSound from text z (AccumSig words) = Unit {0}
IsSound from text z (Fixities names f n) = Unit {0}

abbrev pub AreSound : ℕ → List ℕ → Seen → List Declaration → Type 0
AreSound from text z lines = All (IsSound from text z) lines
