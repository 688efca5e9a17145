-- What the tables of names hold, where so much was said.
use Rattle.std.specs.Prelude.{◌≡◌, ◌⊎◌, ◌<◌, min, ℕ, List, [], map, Bool, true, false, ◌||◌, Option, Some, None, is_some, slice_index_or}
use Rattle.std.specs.Str.{bytes_eq}
use Rattle.std.specs.Map.{lookup}
use Rattle.lp_base.specs.declared.place.Spot.{Spot}
use Rattle.lp_sig.specs.Places.{HasPlaces}
use Rattle.lp_sig.specs.Rows.{Row, fixity_row}
use Rattle.lp_sig.specs.Standard.{standard_kinds}
use Rattle.lp_sig.specs.Said.{Said, a_kind, an_abbreviation, is_among, names_in, firsts, declared_names, kinds_among, abbreviations_among}
use Rattle.lp_standard.specs.declared.fixity.Fixity.{Fixity}
use Rattle.lp_sig.specs.declared.operators.Operators.{Operators}
use Rattle.lp_sig.specs.declared.names.Kinded.{Kinded}
use Rattle.lp_sig.specs.declared.names.Head.{Head}
use Rattle.lp_sig.specs.declared.names.Names.{Names}
use Rattle.lp_sig.specs.declared.names.Meaning.{Meaning}
use Rattle.lp_sig.specs.declared.names.Meaning.TheVariants as meaning
use Rattle.lp_sig.specs.declared.expand.Variables.{Variables}
use Rattle.lp_sig.specs.declared.expand.Made.{Made}
use Rattle.lp_sig.specs.declared.expand.Made.TheVariants as made
use Rattle.lp_sig.specs.declared.fault.SigFault.{SigFault}
use Rattle.lp_sig.specs.declared.fault.SigFault.TheVariants as fault

abbrev pub kinded_row : Kinded → Row ℕ
kinded_row k = (k.name.items, k.arity)

abbrev pub head_row : Head → Row ℕ
head_row h = (h.name.items, h.parameters)

pub record Knows (names : Names) (said : List (Row Said)) : Type 0 where
  pub kinds : map kinded_row names.kinds.items ≡ kinds_among (declared_names said)
  pub heads : map head_row names.heads.items ≡ abbreviations_among (declared_names said)
  pub kind_places : HasPlaces names.kind_places (map (λ k. k.name.items) names.kinds.items)
  pub head_places : HasPlaces names.head_places (map (λ h. h.name.items) names.heads.items)

-- a name has a meaning where it is standard, or something was said of it
abbrev pub is_known : List ℕ → List (Row Said) → Bool
is_known name said = is_among name (names_in standard_kinds) || is_among name (names_in said)

pub record KnowsOperators (operators : Operators) (said : List (Row (Fixity × ℕ))) : Type 0 where
  pub rows : map fixity_row operators.fixities.items ≡ firsts [] said
  pub places : HasPlaces operators.places (map (λ e. e.name.items) operators.fixities.items)

-- what a meaning says; at the place of an abbreviation stands its count of parameters
abbrev pub said_as : Names → Meaning → Said
said_as names (meaning.Kind number count) = a_kind count
said_as names (meaning.Abbreviation place) = an_abbreviation (slice_index_or (map head_row names.heads.items) place ([], 0)).1

-- the number of a meaning: one of a standard kind, or that of a declared kind as far as its type goes
abbrev pub IsNumberOf : Option ℕ → Meaning → Type 0
IsNumberOf o (meaning.Kind number count) = ((o ≡ None) × (number < 8)) ⊎ ((k : ℕ) × (o ≡ Some k) × (number ≡ min k 4294967295))
IsNumberOf o (meaning.Abbreviation place) = Unit {0}

-- the number of a variable
unfoldable pub number_of : Variables → List ℕ → Option ℕ
number_of v name = lookup (λ k. bytes_eq name k.items) v.numbers.entries

-- which variables may stand
abbrev pub Holds : Variables → Option (List (List ℕ)) → Type 0
Holds v None = v.closed ≡ false
Holds v (Some ps) = (v.closed ≡ true) × ((name : List ℕ) → is_some (number_of v name) ≡ is_among name ps)

-- the fault of a word by what is made of it
abbrev pub blamed : Spot → Made → Option SigFault
blamed s (made.Type id) = None
blamed s made.Open = None
blamed s made.Unknown = Some (fault.UnknownKind s)
blamed s made.Arity = Some (fault.Arity s)
