-- The bodies of abbreviations that signatures gave so far.
use Rattle.std.specs.Prelude.{◌≡◌, ◌<◌, ℕ, List, ◌++◌, length, Some, None, true}
use Rattle.lp_term.specs.Nodes.{Nodes, type_tree}
use Rattle.lp_term.specs.declared.node.TypeId.{TypeId}
use Rattle.lp_sig.specs.Abbreviations.{abbreviation_names}
use Rattle.lp_sig.specs.Holding.{body_of, line_at}
use Rattle.lp_sig.specs.Knowing.{Knows}
use Rattle.lp_sig.specs.Named.{NamedTy, named, kind_name, IsWhole}
use Rattle.lp_sig.specs.Places.{first_place}
use Rattle.lp_sig.specs.Rows.{Row, found}
use Rattle.lp_sig.specs.Said.{Said, is_among, names_in}
use Rattle.lp_sig.specs.Sighted.{said_kinds}
use Rattle.lp_sig.specs.declared.bodies.Body.{Body}
use Rattle.lp_sig.specs.declared.making.Making.{Making}

-- the body at the place of a name is the one that was given first
pub record IsGivenBody (b : Nodes) (bodies : List Body) (said : List (Row Said)) (rows : List (Row NamedTy)) (name : List ℕ) (place : ℕ) : Type 0 where
  pub id : TypeId
  pub at : body_of bodies place ≡ Some id
  pub inside : id.0 < length b.types
  pub first : found name rows ≡ Some (named (kind_name (said_kinds said)) (type_tree b id.0))
  pub whole : IsWhole (named (kind_name (said_kinds said)) (type_tree b id.0))

-- so is each, and no text is at work
pub record GivesBodies (b : Nodes) (bodies : List Body) (said : List (Row Said)) (rows : List (Row NamedTy)) : Type 0 where
  pub are : (name : List ℕ) (place : ℕ) → first_place name (abbreviation_names said) ≡ Some place → IsGivenBody b bodies said rows name place
  pub count : length bodies ≡ length (abbreviation_names said)
  pub told : (n : List ℕ) → is_among n (names_in rows) ≡ true → is_among n (names_in said) ≡ true
  pub no_line : (i : ℕ) → line_at bodies i ≡ None

-- more of them are given
abbrev pub GivesMore : Making → Making → List (Row Said) → List (Row NamedTy) → Type 0
GivesMore old new more others = (said : List (Row Said)) (rows : List (Row NamedTy)) → Knows old.names said → GivesBodies old.bodies.types.bank old.bodies.bodies.items said rows →
    GivesBodies new.bodies.types.bank new.bodies.bodies.items (said ++ more) (rows ++ others)
