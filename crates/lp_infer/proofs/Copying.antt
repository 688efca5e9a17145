-- Types that are put into a bank, and copies of those of another.
use Rattle.std.proofs.Common.{◌≡◌, ℕ, zero, suc, ◌<◌, ◌≤◌, List, [], ◌∷◌, map, length, get_or, refl, sym, ap, subst, ◌∙◌, arith, Result, Ok, Err}
use Rattle.std.specs.Prelude.{IfOk}
use Rattle.std.proofs.lemmas.List.Elements.{All-head, All-tail}
use Rattle.lp_calculus.specs.Types.{Ty, tys, types, instance, instances}
use Rattle.lp_calculus.specs.Typing.{type_at, o_type}
use Rattle.lp_term.specs.Nodes.{Nodes, type_tree, Extends}
use Rattle.lp_term.specs.declared.node.TypeId.{TypeId}
use Rattle.lp_term.specs.Within.{IsTypeOf, AreTypesOf}
use Rattle.lp_calculus.specs.Term.{atom, logic}
use Rattle.lp_term.specs.Mapped.{IsMap}
use Rattle.lp_term.proofs.MapLaws.{putting}
use Rattle.lp_infer.specs.declared.instance.TypeArguments.{TypeArguments}
use Rattle.lp_infer.specs.Copies.{trees_of, by_arguments, IsType}

pub type_stays : (b c : Nodes) → Extends b c → (id : TypeId) (T : Ty) → IsType b id T → IsType c id T
type_stays b c E id T h = (let m = E.more_types in omega (arith, h.0, m), E.same_types id.0 h.0 ∙ h.1)

-- the parts of a type

pub tys_instance : (φ : ℕ → Ty) (Ts : List Ty) → tys (map (instance φ) Ts) ≡ instances φ (tys Ts)
tys_instance φ [] = refl
tys_instance φ (T ∷ Ts) = ap (types (instance φ T)) (tys_instance φ Ts)

-- a type that was put, said otherwise
pub ok_type : {E : Type 0} (r : Result TypeId E) (b : Nodes) (T U : Ty) → T ≡ U → IfOk r (λ id. IsType b id T) → IfOk r (λ id. IsType b id U)
ok_type (Ok id) b T U e h = (h.0, h.1 ∙ e)
ok_type (Err x) b T U e h = tt

pub ok_put : {E : Type 0} (r : Result TypeId E) (b : Nodes) (T U : Ty) → T ≡ U → IfOk r (IsTypeOf b) → IfOk r (λ id. type_tree b id.0 ≡ T) → IfOk r (λ id. IsType b id U)
ok_put (Ok id) b T U e w h = (w, h ∙ e)
ok_put (Err x) b T U e w h = tt

pub get_number : (b : Nodes) (args : List TypeId) (n : ℕ) (id : TypeId) → id ≡ get_or args n id → n < length args → type_at (trees_of b args) n ≡ type_tree b id.0
get_number b [] n id e h = absurd (omega (arith, h))
get_number b (a ∷ args) zero id e h = ap (λ t. type_tree b t.0) (sym e)
get_number b (a ∷ args) (suc n) id e h = get_number b args n id e (omega (arith, h))

pub known_number : (b : Nodes) (args : List TypeId) (n : ℕ) (id : TypeId) → id ≡ get_or args n id → n < length args → AreTypesOf b args → id.0 < length b.types
known_number b [] n id e h k = absurd (omega (arith, h))
known_number b (a ∷ args) zero id e h k = subst (λ t. t.0 < length b.types) (sym e) (All-head (IsTypeOf b) a args k)
known_number b (a ∷ args) (suc n) id e h k = known_number b args n id e (omega (arith, h)) (All-tail (IsTypeOf b) a args k)

pub type_of_number : (b : Nodes) (args : List TypeId) (n : ℕ) (id : TypeId) → id ≡ get_or args n id → n < length args → AreTypesOf b args → IsType b id (type_at (trees_of b args) n)
type_of_number b args n id e h k = (known_number b args n id e h k, sym (get_number b args n id e h))

pub no_number : (b : Nodes) (args : List TypeId) (n : ℕ) → length args ≤ n → o_type ≡ type_at (trees_of b args) n
no_number b [] n h = refl
no_number b (a ∷ args) zero h = absurd (omega (arith, h))
no_number b (a ∷ args) (suc n) h = no_number b args n (omega (arith, h))

-- the types that are put in for type variables are told so

argument_at : (b : Nodes) (args : List TypeId) (other : TypeId) → AreTypesOf b args → IsType b other o_type → (x : ℕ) → ((get_or args x other).0 < length b.types) × (type_at (trees_of b args) x ≡ type_tree b (get_or args x other).0)
argument_at b [] other k h x = (h.0, sym h.1)
argument_at b (a ∷ args) other k h zero = (All-head (IsTypeOf b) a args k, refl)
argument_at b (a ∷ args) other k h (suc x) = argument_at b args other (All-tail (IsTypeOf b) a args k) h x

pub arguments_are_map : (b d : Nodes) (f : TypeArguments) → AreTypesOf d f.args.now → IsType d f.other o_type → IsMap (by_arguments f) (putting (type_at (trees_of d f.args.now)) (λ x l. atom (logic x l))) b d
arguments_are_map b d f k h = record { kinds = λ i. refl; constants = λ i. refl; types = λ x. argument_at d f.args.now f.other k h x; terms = λ x l. refl }
