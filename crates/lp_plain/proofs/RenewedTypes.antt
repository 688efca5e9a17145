-- Types with new type variables: the map that gives them, and one type more of a list.
use Rattle.std.proofs.Common.{◌≡◌, ℕ, ◌+◌, ◌-◌, ◌^◌, ◌<◌, List, [], ◌∷◌, ◌++◌, map, length, sym, ap, ◌∙◌, refl, subst as transport, arith, Bool, true, false, nat_lt, min, if◌then◌else◌}
use Rattle.std.specs.Prelude.{All}
use Rattle.std.proofs.lemmas.Bool.Decides.{nat_tests}
use Rattle.std.proofs.lemmas.List.{map-append}
use Rattle.std.proofs.lemmas.List.Elements.{All-head, All-push}
use Rattle.lp_calculus.specs.Types.{Ty, Tys, var, param, con, arrow, no_types, types, instance, instances}
use Rattle.lp_calculus.specs.Term.{atom, logic}
use Rattle.lp_term.specs.Mapped.{IsMap}
use Rattle.lp_term.specs.Nodes.{Nodes, Extends, type_tree}
use Rattle.lp_term.specs.declared.node.TypeId.{TypeId}
use Rattle.lp_term.proofs.MapLaws.{putting}
use Rattle.lp_term.proofs.Walks.{All-front, All-back}
use Rattle.lp_term.proofs.Within.{types_later, type_trees_later}
use Rattle.lp_model.specs.Search.{renewed}
use Rattle.lp_plain.specs.declared.types.Renewal.{Renewal}
use Rattle.lp_plain.specs.Renewal.{renewing, renewing_told, Fits}

pub renewing_is_map : (r : Renewal) (b d : Nodes) → IsMap (renewing_told r) (putting (renewing r) (λ x l. atom (logic x l))) b d
renewing_is_map r b d = record { kinds = λ k. refl; constants = λ k. refl; types = λ x. refl; terms = λ x l. refl }

-- the new type variables are those of the definition
pub renewing_fits : (r : Renewal) → Fits r → (i : ℕ) → renewing r i ≡ renewed r.count r.first i
renewing_fits r f i = by_test (nat_lt i r.count) refl
  where
    new : i < r.count → min (r.first + i) (2 ^ 64 - 1) ≡ r.first + i
    new l = omega (arith, f, l)

    by_test : (t : Bool) → nat_lt i r.count ≡ t → renewing r i ≡ renewed r.count r.first i
    by_test true q =
        ap (λ b. var (if b then min (r.first + i) (2 ^ 64 - 1) else i)) q ∙ ap var (new (grind (arith, nat_tests))) ∙ sym (ap (λ b. if b then var (r.first + i) else var i) q)
    by_test false q = ap (λ b. var (if b then min (r.first + i) (2 ^ 64 - 1) else i)) q ∙ sym (ap (λ b. if b then var (r.first + i) else var i) q)

-- a clause without type variables
pub renewing_none : (r : Renewal) → r.count ≡ 0 → (i : ℕ) → renewing r i ≡ var i
renewing_none r e i =
    let q : nat_lt i r.count ≡ false = grind (arith, nat_tests, e) in
    ap (λ b. var (if b then min (r.first + i) (2 ^ 64 - 1) else i)) q

mutual
  pub instance_same : (θ : ℕ → Ty) → ((i : ℕ) → θ i ≡ var i) → (T : Ty) → instance θ T ≡ T
  instance_same θ h (var i) = h i
  instance_same θ h (param k) = refl
  instance_same θ h (con c ts) = ap (con c) (instances_same θ h ts)
  instance_same θ h (arrow a b) = λ i. arrow (instance_same θ h a i) (instance_same θ h b i)

  instances_same : (θ : ℕ → Ty) → ((i : ℕ) → θ i ≡ var i) → (ts : Tys) → instances θ ts ≡ ts
  instances_same θ h no_types = refl
  instances_same θ h (types t ts) = λ i. types (instance_same θ h t i) (instances_same θ h ts i)

-- one type more of a list
pub one_more_within : (b d : Nodes) (old new : List TypeId) (id : TypeId) → Extends b d → All (λ t. t.0 < length b.types) old → id.0 < length d.types → new ≡ old ++ id ∷ [] → All (λ t. t.0 < length d.types) new
one_more_within b d old new id e a l q = transport (All (λ t. t.0 < length d.types)) (sym q) (All-push (λ t. t.0 < length d.types) old id (types_later b d old e a) l)

pub one_more_renewed : (θ : ℕ → Ty) (a b d : Nodes) (olds news news' : List TypeId) (id made : TypeId) → Extends a b → Extends b d → All (λ t. t.0 < length b.types) news →
    (All (λ t. t.0 < length a.types) olds → map (λ t. type_tree b t.0) news ≡ map (λ t. instance θ (type_tree a t.0)) olds) → type_tree d made.0 ≡ instance θ (type_tree b id.0) → news' ≡ news ++ made ∷ [] →
    All (λ t. t.0 < length a.types) (olds ++ id ∷ []) → map (λ t. type_tree d t.0) news' ≡ map (λ t. instance θ (type_tree a t.0)) (olds ++ id ∷ [])
one_more_renewed θ a b d olds news news' id made e f k h t q w =
    let front : All (λ u. u.0 < length a.types) olds = All-front (λ u. u.0 < length a.types) olds (id ∷ []) w in
    let l : id.0 < length a.types = All-head (λ (u : TypeId). u.0 < length a.types) id [] (All-back (λ u. u.0 < length a.types) olds (id ∷ []) w) in
    ap (map (λ u. type_tree d u.0)) q ∙ map-append (λ u. type_tree d u.0) news (made ∷ []) ∙
    (λ i. (type_trees_later b d news f k ∙ h front) i ++ (t ∙ ap (instance θ) (e.same_types id.0 l)) i ∷ []) ∙
    sym (map-append (λ u. instance θ (type_tree a u.0)) olds (id ∷ []))
