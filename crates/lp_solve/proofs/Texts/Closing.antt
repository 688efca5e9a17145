-- A formula closed by `pi` over its variables.
use Rattle.std.proofs.Common.{◌≡◌, ℕ, List, [], ◌∷◌, map, length, refl, ap, ◌∙◌, arith}
use Rattle.lp_calculus.specs.Types.{Ty, arrow}
use Rattle.lp_calculus.specs.Term.{Term, atom, abs, app, constant}
use Rattle.lp_calculus.specs.Fill.{Within}
use Rattle.lp_calculus.specs.Typing.{Typed, o_type, scheme_type}
use Rattle.lp_unify_laws.specs.TypesBelow.{AreTypesBelow}
use Rattle.lp_standard.specs.Schemes.{IsStandard}
use Rattle.lp_standard.specs.Connectives.{pi_of}
use Rattle.lp_term.specs.Mapped.{Map, mapped_type, mapped}
use Rattle.lp_model.specs.Flat.{all_of}
use Rattle.lp_model.specs.Proofs.{Declared, under}
use Rattle.lp_search_laws.specs.Started.{IsQueryAtom}

pi_typed : (d : Declared) → IsStandard d → (C : List Ty) (T : Ty) (t : Term) → Typed (under d []) (T ∷ C) t o_type → Typed (under d []) C (pi_of T (abs t)) o_type
pi_typed d std C T t h = (arrow T o_type, ap (scheme_type (T ∷ [])) (std.at 4 (omega arith)), (T, o_type, refl, h))

pub closed_typed : (d : Declared) → IsStandard d → (Ts : List Ty) (t : Term) → Typed (under d []) Ts t o_type → Typed (under d []) [] (all_of Ts t) o_type
closed_typed d std [] t h = h
closed_typed d std (T ∷ Ts) t h = closed_typed d std Ts (pi_of T (abs t)) (pi_typed d std Ts T t h)

pub closed_within : (k : ℕ) (Ts : List Ty) (t : Term) → AreTypesBelow k Ts → Within (IsQueryAtom k) (length Ts) t → Within (IsQueryAtom k) 0 (all_of Ts t)
closed_within k [] t b h = h
closed_within k (T ∷ Ts) t (b, more) h = closed_within k Ts (pi_of T (abs t)) more ((b, tt), h)

-- renumbered, where `pi` stays
pub closed_moved : (m : Map) → m.constants 4 ≡ 4 → (Ts : List Ty) (t : Term) → mapped m (all_of Ts t) ≡ all_of (map (mapped_type m) Ts) (mapped m t)
closed_moved m e [] t = refl
closed_moved m e (T ∷ Ts) t = closed_moved m e Ts (pi_of T (abs t)) ∙ ap (λ c. all_of (map (mapped_type m) Ts) (app (atom (constant c (mapped_type m T ∷ []))) (abs (mapped m t)))) e
