-- What is left to be written of a type, as parts are taken off and put on.
use Rattle.std.proofs.Common.{◌≡◌, List, [], ◌∷◌, ◌++◌, map, reverse, refl, ap, ◌∙◌}
use Rattle.std.specs.List.{flat_map}
use Rattle.std.proofs.lemmas.List.{reverse-append, reverse-reverse}
use Rattle.std.proofs.lemmas.Grind.{flat_map-append}
use Rattle.lp_calculus.specs.Types.{tys}
use Rattle.lp_term.specs.declared.node.TypeId.{TypeId}
use Rattle.lp_term.specs.Nodes.{Nodes, type_tree}
use Rattle.lp_object.specs.declared.width.Width.{Width}
use Rattle.lp_object.specs.Spelling.{spelled_types}
use Rattle.lp_object.specs.inner.Waiting.{spelled_at, waiting}

pub types_at : (w : Width) (b : Nodes) (ts : List TypeId) → spelled_types w (tys (map (type_tree b) (map (λ t. t.0) ts))) ≡ flat_map (spelled_at w b) ts
types_at w b [] = refl
types_at w b (t ∷ ts) = ap (λ xs. spelled_at w b t ++ xs) (types_at w b ts)

-- the last one of the stack stands first
pub waiting_last : (w : Width) (b : Nodes) (old new : List TypeId) (t : TypeId) → old ≡ new ++ t ∷ [] → waiting w b old ≡ spelled_at w b t ++ waiting w b new
waiting_last w b old new t e = ap (λ ts. waiting w b ts) e ∙ ap (flat_map (spelled_at w b)) (reverse-append new (t ∷ []))

pub waiting_reversed : (w : Width) (b : Nodes) (old new ts : List TypeId) → new ≡ old ++ reverse ts → waiting w b new ≡ flat_map (spelled_at w b) ts ++ waiting w b old
waiting_reversed w b old new ts e =
    ap (λ us. waiting w b us) e ∙ ap (flat_map (spelled_at w b)) (reverse-append old (reverse ts) ∙ ap (λ us. us ++ reverse old) (reverse-reverse ts)) ∙ flat_map-append (spelled_at w b) ts (reverse old)
