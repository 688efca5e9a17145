-- The types of constants while the sentences of a module are taken up.
use Rattle.std.specs.Prelude.{◌≡◌, ◌<◌, ℕ, List, ◌++◌, length, All}
use Rattle.lp_base.specs.declared.place.Spot.{Spot}
use Rattle.lp_calculus.specs.Types.{Ty}
use Rattle.lp_term.specs.Nodes.{Nodes, type_tree}
use Rattle.lp_sig.specs.Abbreviations.{abbreviation_names}
use Rattle.lp_sig.specs.Constants.{Written, IsSchemeOf, IsSettledAt, AreTyped}
use Rattle.lp_sig.specs.Holding.{HoldsBodies}
use Rattle.lp_sig.specs.Knowing.{Knows}
use Rattle.lp_sig.specs.Pieces.{spelled}
use Rattle.lp_sig.specs.Rows.{Row}
use Rattle.lp_sig.specs.Said.{Said}
use Rattle.lp_sig.specs.Schemes.{first_variables}
use Rattle.lp_sig.specs.Sighted.{HasTree, AreCounted}
use Rattle.lp_sig.specs.Types.{Definition}
use Rattle.lp_sig.specs.Worded.{HasWords}
use Rattle.lp_sig.specs.declared.bodies.Body.{Body}
use Rattle.lp_sig.specs.declared.bodies.Bodies.{Bodies}
use Rattle.lp_sig.specs.declared.constants.Constants.{Constants}
use Rattle.lp_sig.specs.declared.constants.DeclaredType.{DeclaredType}
use Rattle.lp_sig.specs.declared.making.Making.{Making}
use Rattle.lp_sig.specs.declared.names.Names.{Names}

-- a type that can be declared
pub record CanDeclare (b : Nodes) (c : Constants) (words : List (List ℕ)) (d : DeclaredType) : Type 0 where
  pub met : HasWords c words
  pub counted : AreCounted b c
  pub typed : AreTyped c
  pub inside : d.scheme.0 < length b.types
  pub count : d.type_vars ≡ length (first_variables (type_tree b d.scheme.0))

-- names were declared with it
pub record AreDeclaredAs (b : Nodes) (c : Constants) (text : List ℕ) (names : List Spot) (d : DeclaredType) : Type 0 where
  pub counted : AreCounted b c
  pub typed : AreTyped c
  pub trees : All (λ s. HasTree b c (spelled text s) (type_tree b d.scheme.0)) names

-- a constant so far has the type that is written
pub record HasWritten (b : Nodes) (c : Constants) (said : List (Row Said)) (defs : List (Row Definition)) (row : Row Written) : Type 0 where
  pub count : ℕ
  pub tree : Ty
  pub scheme : IsSchemeOf said defs row.1 count tree
  pub has : HasTree b c row.0 tree

-- each abbreviation has a body
abbrev pub AreSettled : List Body → List (Row Said) → Type 0
AreSettled bodies said = (place : ℕ) → place < length (abbreviation_names said) → IsSettledAt bodies place

-- what is known while sentences are taken up
pub record IsReading (names : Names) (bodies : Bodies) (c : Constants) (said : List (Row Said)) (defs : List (Row Definition)) (words : List (List ℕ)) : Type 0 where
  pub knows : Knows names said
  pub holds : HoldsBodies bodies.types.bank bodies.bodies.items said defs
  pub settled : AreSettled bodies.bodies.items said
  pub met : HasWords c words
  pub counted : AreCounted bodies.types.bank c
  pub typed : AreTyped c

-- a sentence is taken up: it is known on, and these constants have the types that are written
abbrev pub Reads : Names → Bodies → Constants → Bodies → Constants → List (Row Written) → List (List ℕ) → Type 0
Reads names b c new d rows more = (said : List (Row Said)) (defs : List (Row Definition)) (words : List (List ℕ)) → IsReading names b c said defs words → IsReading names new d said defs (words ++ more) × All (HasWritten new.types.bank d said defs) rows

abbrev pub ReadsOn : Making → Making → List (Row Written) → List (List ℕ) → Type 0
ReadsOn old new rows more = Reads old.names old.bodies old.constants new.bodies new.constants rows more
