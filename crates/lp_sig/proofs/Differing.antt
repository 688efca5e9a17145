-- A body that is no equal of the first one of its name has another tree.
use Rattle.std.proofs.Common.{◌≡◌, ℕ, ◌<◌, List, length, Option, Some, subst}
use Rattle.std.specs.Prelude.{IfSome}
use Rattle.lp_base.specs.declared.place.Spot.{Spot}
use Rattle.lp_term.specs.Nodes.{Nodes, type_tree}
use Rattle.lp_term.specs.declared.node.TypeId.{TypeId}
use Rattle.lp_syntax.specs.declared.text.RawType.{RawType}
use Rattle.lp_sig.specs.Pieces.{spelled}
use Rattle.lp_sig.specs.Places.{first_place}
use Rattle.lp_sig.specs.Rows.{Row}
use Rattle.lp_sig.specs.Said.{Said}
use Rattle.lp_sig.specs.Abbreviations.{abbreviation_names}
use Rattle.lp_sig.specs.Types.{Definition, by_parameters, IsTypeOf}
use Rattle.lp_sig.specs.Faults.{HasOtherBody}
use Rattle.lp_sig.specs.Holding.{body_of, IsTree, HoldsBodies}
use Rattle.lp_sig.specs.declared.bodies.Body.{Body}

pub other_body : (b : Nodes) (bodies : List Body) (said : List (Row Said)) (defs : List (Row Definition)) (text : List ℕ) (name : Spot) (ps : List Spot) (ty : RawType) (place : ℕ) (known new : TypeId) (o : Option TypeId) → HoldsBodies b bodies said defs →
    first_place (spelled text name) (abbreviation_names said) ≡ Some place → body_of bodies place ≡ Some known → o ≡ Some new → IfSome o (IsTree b (IsTypeOf said defs text (by_parameters text ps) ty.nodes.items ty.root)) →
    (known.0 < length b.types → new.0 < length b.types → type_tree b known.0 ≡ type_tree b new.0 → ⊥) → HasOtherBody said defs text name ps ty
other_body b bodies said defs text name ps ty place known new o h at is some made differ =
    let first = h (spelled text name) place known at is in
    let here = subst (λ o. IfSome o (IsTree b (IsTypeOf said defs text (by_parameters text ps) ty.nodes.items ty.root))) some made in
    record { first = type_tree b known.0; here = type_tree b new.0; declared = first.1; is = here.1; differ = differ first.0 here.0 }
