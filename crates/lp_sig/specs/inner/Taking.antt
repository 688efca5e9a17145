-- What is known of constants while the sentences of a module are taken up, whether or not all abbreviations have bodies.
use Rattle.std.specs.Prelude.{◌≡◌, ◌⊎◌, ◌<◌, ℕ, List, ◌++◌, length, Option, Some, Contains}
use Rattle.lp_base.specs.declared.place.Spot.{Spot}
use Rattle.lp_calculus.specs.Types.{Ty}
use Rattle.lp_term.specs.Nodes.{Nodes, type_tree}
use Rattle.lp_term.specs.declared.node.TypeId.{TypeId}
use Rattle.lp_syntax.specs.declared.text.Declaration.{Declaration}
use Rattle.lp_sig.specs.AsWritten.{typed_in}
use Rattle.lp_sig.specs.Constants.{Written, standard_tree}
use Rattle.lp_sig.specs.Differing.{IsKnownType}
use Rattle.lp_sig.specs.Holding.{IsTree, HoldsBodies}
use Rattle.lp_sig.specs.Knowing.{Knows}
use Rattle.lp_sig.specs.ModuleFaults.{HasLineCause, HasLineTypeCause}
use Rattle.lp_sig.specs.Modules.{constant_names_in}
use Rattle.lp_sig.specs.Pieces.{spelled}
use Rattle.lp_sig.specs.Rows.{Row, found}
use Rattle.lp_sig.specs.Said.{Said}
use Rattle.lp_sig.specs.Standard.{standard_constants}
use Rattle.lp_sig.specs.Types.{Definition}
use Rattle.lp_sig.specs.Worded.{HasWords}
use Rattle.lp_sig.specs.declared.bodies.Bodies.{Bodies}
use Rattle.lp_sig.specs.declared.constants.Constant.{Constant}
use Rattle.lp_sig.specs.declared.constants.Constants.{Constants}
use Rattle.lp_sig.specs.declared.constants.DeclaredType.{DeclaredType}
use Rattle.lp_sig.specs.declared.fault.SigFault.{SigFault}
use Rattle.lp_sig.specs.declared.fault.SigFault.TheVariants as fault
use Rattle.lp_sig.specs.declared.making.Making.{Making}
use Rattle.lp_sig.specs.declared.module_fault.ModuleSigFault.{ModuleSigFault}
use Rattle.lp_sig.specs.declared.names.Names.{Names}
use Rattle.lp_sig.specs.declared.signature.Signature.{Signature}

-- a name is known with this type of the bank
pub data IsKnownId (b : Nodes) (c : Constants) (name : List ℕ) (t : TypeId) : Type 0 where
  standard_id : (n : ℕ) → found name standard_constants ≡ Some n → IsTree b (λ T. T ≡ standard_tree n) t → IsKnownId b c name t
  constant_id : (k : Constant) → Contains c.constants.items k → k.name.items ≡ name → (d : DeclaredType) → k.declared ≡ Some d → t ≡ d.scheme → IsKnownId b c name t

-- it is another one than that which is declared
pub record IsOtherId (b : Nodes) (c : Constants) (name : List ℕ) (declared : Option DeclaredType) : Type 0 where
  pub known : TypeId
  pub is : IsKnownId b c name known
  pub new : DeclaredType
  pub some : declared ≡ Some new
  pub distinct : known.0 < length b.types → new.scheme.0 < length b.types → type_tree b known.0 ≡ type_tree b new.scheme.0 → ⊥

abbrev pub AreOtherIds : List ℕ → Nodes → Constants → List Spot → Option DeclaredType → SigFault → Type 0
AreOtherIds text b c names declared f = (s : Spot) → f ≡ fault.Differ s → Contains names s × IsOtherId b c (spelled text s) declared

-- a type that is declared stands in the bank
abbrev pub IsInside : Nodes → Option DeclaredType → Type 0
IsInside b declared = (d : DeclaredType) → declared ≡ Some d → d.scheme.0 < length b.types

-- the constants that are added have these names, and what is declared
abbrev pub AddsNames : Constants → Constants → List ℕ → List Spot → Option DeclaredType → Type 0
AddsNames old new text names declared = (k : Constant) → Contains new.constants.items k → Contains old.constants.items k ⊎ ((s : Spot) × Contains names s × (k.name.items ≡ spelled text s) × (k.declared ≡ declared))

-- the types of constants so far are those that signatures give, or of rows
abbrev pub AreKnownTypes : Nodes → Constants → List (Row Said) → List (Row Definition) → List (Row Ty) → List (Row Written) → Type 0
AreKnownTypes b c said defs given rows = (k : Constant) → Contains c.constants.items k → (d : DeclaredType) → k.declared ≡ Some d → (d.scheme.0 < length b.types) × IsKnownType said defs given rows k.name.items (type_tree b d.scheme.0)

-- what is known while sentences are taken up
pub record IsTaking (names : Names) (bodies : Bodies) (c : Constants) (said : List (Row Said)) (defs : List (Row Definition)) (given : List (Row Ty)) (rows : List (Row Written)) (words : List (List ℕ)) : Type 0 where
  pub knows : Knows names said
  pub holds : HoldsBodies bodies.types.bank bodies.bodies.items said defs
  pub met : HasWords c words
  pub types : AreKnownTypes bodies.types.bank c said defs given rows

-- a sentence is taken up, with these constants
abbrev pub Takes : Names → Bodies → Constants → Bodies → Constants → List (Row Written) → List (List ℕ) → Type 0
Takes names b c new d rows more = (said : List (Row Said)) (defs : List (Row Definition)) (given : List (Row Ty)) (before : List (Row Written)) (words : List (List ℕ)) → IsTaking names b c said defs given before words → IsTaking names new d said defs given (before ++ rows) (words ++ more)

abbrev pub TakesOn : Making → Making → List (Row Written) → List (List ℕ) → Type 0
TakesOn old new rows more = Takes old.names old.bodies old.constants new.bodies new.constants rows more

-- why a sentence is refused, where so many names are known before the text, and these sentences are before it in the text
pub record IsCausedFrom (making : Making) (own : Signature) (text : List ℕ) (said : List (Row Said)) (words : List (List ℕ)) (before : List Declaration) (line : Declaration) (e : ModuleSigFault) : Type 0 where
  pub full : HasLineCause own text (words ++ constant_names_in text before) line e
  pub other : (defs : List (Row Definition)) (given : List (Row Ty)) (rows : List (Row Written)) → IsTaking making.names making.bodies making.constants said defs given rows words → HasLineTypeCause own text said defs given (rows ++ typed_in text before) line e
