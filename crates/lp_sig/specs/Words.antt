-- What names and words mean, and the faults of a sentence by them, under all that is said up to the end of its text.
use Rattle.std.specs.Prelude.{◌≡◌, ◌≢◌, ◌≤◌, ◌<◌, ℕ, suc, nat_eq, nat_le, List, ◌++◌, Option, Some, None, Bool, true, map, take, length, All, Contains, if◌then◌else◌, is_some, option_map, IfSome, slice_index_or}
use Rattle.lp_base.specs.declared.limits.TheConstants.{END_OF_NUMBERS, MAX_ARGUMENTS, MAX_NAME_BYTES}
use Rattle.lp_base.specs.declared.limit.Limit.TheVariants as limit
use Rattle.lp_base.specs.declared.place.Spot.{Spot}
use Rattle.lp_syntax.specs.declared.text.RawType.{RawType}
use Rattle.lp_syntax.specs.declared.text.RawTypeNode.{RawTypeNode}
use Rattle.lp_syntax.specs.declared.text.RawTypeNode.TheVariants.{Word, Arrow}
use Rattle.lp_sig.specs.Pieces.{spelled, begins_variable}
use Rattle.lp_sig.specs.Rows.{Row, found}
use Rattle.lp_sig.specs.Standard.{standard_kinds}
use Rattle.lp_sig.specs.Said.{Said, a_kind, an_abbreviation, is_among, numbered, kinds_among, declared_names}
use Rattle.lp_sig.specs.Limits.{IsShort, AreApart}
use Rattle.lp_sig.specs.declared.fault.SigFault.{SigFault}
use Rattle.lp_sig.specs.declared.fault.SigFault.TheVariants as fault

abbrev pub standard_said : List (Row Said)
standard_said = map (λ r. (r.0, a_kind r.1.1)) standard_kinds

-- what a name means: the first thing that is said of it, behind the standard names
unfoldable pub meaning_of : List ℕ → List (Row Said) → Option Said
meaning_of name said = found name (standard_said ++ said)

-- how many arguments a word stands on
abbrev pub counted : Said → ℕ
counted (a_kind c) = c
counted (an_abbreviation p) = p

-- the variables that may stand in a type: all in a declared type, the parameters in the body of an abbreviation
abbrev pub may_stand : Option (List (List ℕ)) → List ℕ → Bool
may_stand None v = true
may_stand (Some ps) v = is_among v ps

-- a word on so many arguments, by what it means
abbrev pub on_count : Spot → ℕ → Said → Option SigFault
on_count s n m = if nat_eq n (counted m) then None else Some (fault.Arity s)

abbrev pub by_meaning : Spot → ℕ → Option Said → Option SigFault
by_meaning s n None = Some (fault.UnknownKind s)
by_meaning s n (Some m) = on_count s n m

-- the fault of a word on so many arguments: a variable that may not stand there, a name that is no kind and no abbreviation,
-- and one that stands on another number of arguments
unfoldable pub fault_of_word : List ℕ → List (Row Said) → Option (List (List ℕ)) → Spot → ℕ → Option SigFault
fault_of_word text said variables s n =
    if begins_variable (spelled text s) then (if may_stand variables (spelled text s) then None else Some (fault.UnknownKind s))
    else by_meaning s n (meaning_of (spelled text s) said)

abbrev pub word_fault : List ℕ → List (Row Said) → Option (List (List ℕ)) → RawTypeNode → Option SigFault
word_fault text said variables (Word s args) = fault_of_word text said variables s (length args.items)
word_fault text said variables (Arrow a b) = None

-- the earlier of two faults with their places
abbrev pub earlier_of : Option (ℕ × SigFault) → Option (ℕ × SigFault) → Option (ℕ × SigFault)
earlier_of None b = b
earlier_of (Some a) None = Some a
earlier_of (Some a) (Some b) = if nat_le a.0 b.0 then Some a else Some b

-- where a word begins
abbrev pub beginning : RawTypeNode → ℕ
beginning (Word s args) = s.from
beginning (Arrow a b) = 0

-- no word of a type has a fault
abbrev pub WordsStand : List ℕ → List (Row Said) → Option (List (List ℕ)) → List RawTypeNode → Type 0
WordsStand text said variables nodes = (n : RawTypeNode) → Contains nodes n → word_fault text said variables n ≡ None

-- the fault of the first word of a type, in text order, that has one
pub record IsFirstFault (text : List ℕ) (said : List (Row Said)) (variables : Option (List (List ℕ))) (nodes : List RawTypeNode) (e : SigFault) : Type 0 where
  pub node : RawTypeNode
  pub among : Contains nodes node
  pub is : word_fault text said variables node ≡ Some e
  pub first : (n : RawTypeNode) → Contains nodes n → is_some (word_fault text said variables n) ≡ true → beginning node ≤ beginning n

-- a name is short, and means what is said of it here
abbrev pub IsMeant : List ℕ → List (Row Said) → Said → Spot → Type 0
IsMeant text said m s = IsShort text s × (meaning_of (spelled text s) said ≡ Some m)

abbrev pub AreMeant : List ℕ → List (Row Said) → Said → List Spot → Type 0
AreMeant text said m names = All (IsMeant text said m) names

-- the number of a declared kind, from 8 on in the order of declaration, is below 65535
unfoldable pub number_said : List ℕ → List (Row Said) → Option ℕ
number_said name said = option_map (λ r. r.0) (found name (numbered 8 (kinds_among (declared_names said))))

abbrev pub IsNumbered : List ℕ → List (Row Said) → Spot → Type 0
IsNumbered text said s = IfSome (number_said (spelled text s) said) (λ n. n < END_OF_NUMBERS)

abbrev pub AreNumbered : List ℕ → List (Row Said) → List Spot → Type 0
AreNumbered text said names = All (IsNumbered text said) names

-- why a name is refused: it is long, or it means something else than what is said of it here, or there are too many names
pub data IsNameFault (text : List ℕ) (said : List (Row Said)) (m : Said) (s : Spot) : SigFault → Type 0 where
  long : {e : SigFault} → e ≡ fault.Limit limit.NameLength → MAX_NAME_BYTES < length (spelled text s) → IsNameFault text said m s e
  other : {e : SigFault} → e ≡ fault.Differ s → IsShort text s → meaning_of (spelled text s) said ≢ Some m → IsNameFault text said m s e
  many : {e : SigFault} → e ≡ fault.Limit limit.Names → IsMeant text said m s → (n : ℕ) → number_said (spelled text s) said ≡ Some n → END_OF_NUMBERS ≤ n → IsNameFault text said m s e

-- the first of these names that is refused
pub record IsFirstName (text : List ℕ) (said : List (Row Said)) (m : Said) (names : List Spot) (e : SigFault) : Type 0 where
  pub k : ℕ
  pub name : Spot
  pub inside : k < length names
  pub at_name : slice_index_or names k name ≡ name
  pub refused : IsNameFault text said m name e
  pub before : AreMeant text said m (take k names)
  pub numbered_before : AreNumbered text said (take k names)

-- why a sentence of kinds is refused: one of its names, then its count of arguments
pub data IsKindsFault (text : List ℕ) (said : List (Row Said)) (names : List Spot) (n : ℕ) : SigFault → Type 0 where
  a_name : {e : SigFault} → IsFirstName text said (a_kind n) names e → IsKindsFault text said names n e
  arguments : {e : SigFault} → e ≡ fault.Limit limit.Arguments → AreMeant text said (a_kind n) names → AreNumbered text said names → MAX_ARGUMENTS < n → IsKindsFault text said names n e

-- a type as written has so many arguments, or more
pub data HasArguments (nodes : List RawTypeNode) : ℕ → ℕ → Type 0 where
  no_more : {at n : ℕ} → n ≡ 0 → HasArguments nodes at n
  one_more : {at n : ℕ} → (a b m : ℕ) → at < length nodes → slice_index_or nodes at (Arrow a b) ≡ Arrow a b → n ≡ suc m → HasArguments nodes b m → HasArguments nodes at n

-- a type as written has more than 255 arguments
abbrev pub IsLongType : List RawTypeNode → ℕ → Type 0
IsLongType nodes root = (n : ℕ) × (MAX_ARGUMENTS < n) × HasArguments nodes root n

-- a declared type has at most 255 arguments as written, and its words have no fault
abbrev pub IsSoundType : List ℕ → List (Row Said) → RawType → Type 0
IsSoundType text said ty = (IsLongType ty.nodes.items ty.root → ⊥) × WordsStand text said None ty.nodes.items

-- an abbreviation's name means it, no parameter stands twice, and there are at most 255
abbrev pub IsHead : List ℕ → List (Row Said) → Spot → List Spot → Type 0
IsHead text said name ps = IsMeant text said (an_abbreviation (length ps)) name × AreApart text ps × (length ps ≤ MAX_ARGUMENTS)

abbrev pub parameters_of : List ℕ → List Spot → Option (List (List ℕ))
parameters_of text ps = Some (map (λ p. spelled text p) ps)
