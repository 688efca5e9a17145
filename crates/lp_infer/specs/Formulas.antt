-- The types and the formula of a text that are read off, with the type variables numbered.
use Rattle.std.specs.Prelude.{◌≡◌, ℕ, List, [], map, length, take, drop}
use Rattle.indexmap.specs.IndexMap.{IndexMap}
use Rattle.lp_base.specs.declared.place.Spot.{Spot}
use Rattle.lp_calculus.specs.Types.{Ty, instance}
use Rattle.lp_term.specs.Nodes.{Nodes, type_tree, tree}
use Rattle.lp_term.specs.declared.node.TypeId.{TypeId}
use Rattle.lp_model.specs.declared.program.Typed.{Typed}
use Rattle.lp_infer.specs.Typing.{Raw}
use Rattle.lp_infer.specs.Numbering.{all_variables}
use Rattle.lp_infer.specs.Postfix.{postfix, mark}
use Rattle.lp_infer.specs.Meeting.{met, renaming}
use Rattle.lp_infer.specs.Filling.{fills}
use Rattle.lp_infer.specs.ReadingOff.{bound_type}
use Rattle.lp_infer.specs.declared.lookup.Step.{Step}
use Rattle.lp_infer.specs.declared.generate.Typing.{Typing}

-- the types that are wanted, under bindings
abbrev pub wanted_types : {S : Type 0} → Typing → IndexMap ℕ TypeId S → List Ty
wanted_types t made = map (bound_type t.types made) (map (λ i. i.0) t.wanted.items)

-- the type variables of these types, each where it is met first
abbrev pub variables_of : List Ty → List ℕ
variables_of As = met [] (all_variables As)

-- the types with their type variables numbered so
abbrev pub in_order : List Ty → List Ty
in_order As = map (instance (renaming (variables_of As))) As

-- a typed formula has these types: first those of its variables, then the type arguments of its constants
pub record HasTypes (text : List ℕ) (steps : List Step) (spots : List Spot) (As : List Ty) (b : Nodes) (t : Typed) : Type 0 where
  pub places : map (λ v. v.0) t.vars.items ≡ spots
  pub types : map (λ v. type_tree b v.1.0) t.vars.items ≡ take (length spots) (in_order As)
  pub formula : (R : Raw) (τ : ℕ → Ty) (c : Nodes) → postfix R ≡ map (mark text c (length spots) τ) steps → tree b t.formula.0 ≡ (fills R (drop (length spots) (in_order As))).0
  pub count : t.type_vars ≡ length (variables_of As)
