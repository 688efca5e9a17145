-- The comparison of types, pair by pair.
use Rattle.std.proofs.Common.{◌≡◌, ℕ, zero, suc, ◌+◌, ◌<◌, ◌≢◌, List, [], ◌∷◌, ◌++◌, map, reverse, length, ◌∙◌, refl, sym, ap, subst as transport, arith, true, false, Option, Some, None, nat_eq, if◌then◌else◌, append_assoc}
use Rattle.std.specs.Prelude.{option_map}
use Rattle.std.proofs.lemmas.Bool.{eq-eqb}
use Rattle.std.proofs.lemmas.List.{map-append, reverse-append, reverse-reverse}
use Rattle.indexmap.specs.IndexMap.{get}
use Rattle.lp_calculus.specs.Types.{Ty, Tys, var, param, con, arrow, tys, instance, instances}
use Rattle.lp_term.specs.Nodes.{Nodes, type_tree}
use Rattle.lp_term.specs.declared.node.TypeId.{TypeId}
use Rattle.lp_model.specs.Types.{TypePair, parts_of, same_top}
use Rattle.lp_model.specs.Rule.{Compared, dearer, compare_types}
use Rattle.lp_pattern.specs.declared.bindings.Bindings.{Bindings}
use Rattle.lp_pattern.specs.Under.{TypeIs, AreTypes, IsUnbound}
use Rattle.lp_pattern.specs.Reading.{paired, type_pair_of, type_pairs_of}
use Rattle.lp_pattern.specs.Comparing.{IsLoose, HasSameTop, IsComparedTo, IsPassed, IsRest}
use Rattle.lp_pattern.specs.declared.fault.PatternRefusal.{PatternRefusal}
use Rattle.lp_pattern.specs.declared.fault.PatternRefusal.TheVariants.{Deep}

-- a type past the bindings
pub bound_same : (b : Nodes) (s : Bindings) (θ : ℕ → Ty) (x : ℕ) (value top : TypeId) → AreTypes b s θ → get nat_eq s.types x ≡ Some value → var x ≡ type_tree b top.0 →
    instance θ (type_tree b value.0) ≡ instance θ (type_tree b top.0)
bound_same b s θ x value top r e q =
    let v : TypeIs b θ x (Some value) = transport (TypeIs b θ x) e (r x) in
    sym v.1 ∙ ap (instance θ) q

unbound_loose-at : (b : Nodes) (s : Bindings) (θ : ℕ → Ty) (t : Ty) → AreTypes b s θ → IsUnbound s t → IsLoose θ t
unbound_loose-at b s θ (var x) r u = let v : TypeIs b θ x None = transport (TypeIs b θ x) u (r x) in v
unbound_loose-at b s θ (param k) r u = tt
unbound_loose-at b s θ (con c ts) r u = tt
unbound_loose-at b s θ (arrow t v) r u = tt

pub unbound_loose : (b : Nodes) (s : Bindings) (θ : ℕ → Ty) (t : TypeId) → AreTypes b s θ → IsUnbound s (type_tree b t.0) → IsLoose θ (type_tree b t.0)
unbound_loose b s θ t r u = unbound_loose-at b s θ (type_tree b t.0) r u

-- a pair is taken from the rest
from_map : (f : Compared → Compared) (o : Option Compared) (s : Compared) → option_map f o ≡ Some s → (r : Compared) × (o ≡ Some r) × (s ≡ f r)
from_map f None s e = absurd (cc)
from_map f (Some r) s e = (r, refl, (cc))

abbrev fewer : ℕ → ℕ
fewer zero = zero
fewer (suc n) = n

pub more_pairs : (old now next : ℕ) (o : Option Compared) (m : ℕ) (p : TypePair) (ps qs : List TypePair) → now ≡ suc next → same_top p.left p.right ≡ Some qs →
    IsRest old now o (compare_types m (p ∷ ps)) → (k : ℕ) × IsRest old next o (compare_types k (qs ++ ps))
more_pairs old now next o m p ps qs u t h = (fewer m, λ r e. go m r (h r e))
  where
    go : (m : ℕ) (r : Compared) → ((s : Compared) × (compare_types m (p ∷ ps) ≡ Some s) × (r.same ≡ s.same) × (r.units + now ≡ s.units + old)) →
        (s : Compared) × (compare_types (fewer m) (qs ++ ps) ≡ Some s) × (r.same ≡ s.same) × (r.units + next ≡ s.units + old)
    go zero r w = absurd (cc)
    go (suc k) r w =
        let q : option_map (dearer 1) (compare_types k (qs ++ ps)) ≡ Some w.0 =
        ap (λ (x : Option (List TypePair)). elim x as (λ y. Option Compared) [ None ↦ Some (record { same = false; units = 1 }) | Some qs ↦ option_map (dearer 1) (compare_types k (qs ++ ps)) ]) (sym t) ∙ w.1 in
        let f = from_map (dearer 1) (compare_types k (qs ++ ps)) w.0 q in
        let same : w.0.same ≡ f.0.same = ap (λ c. c.same) f.2 in
        let units : w.0.units ≡ 1 + f.0.units = ap (λ c. c.units) f.2 in
        (f.0, f.1, w.2 ∙ same, omega (arith, w.3, units, u))

pub pairs_differ : (old now next : ℕ) (o : Option Compared) (m : ℕ) (p : TypePair) (ps : List TypePair) → now ≡ suc next → same_top p.left p.right ≡ None →
    IsRest old now o (compare_types m (p ∷ ps)) → IsComparedTo false old next o
pairs_differ old now next o m p ps u t h = λ r e. go m r (h r e)
  where
    go : (m : ℕ) (r : Compared) → ((s : Compared) × (compare_types m (p ∷ ps) ≡ Some s) × (r.same ≡ s.same) × (r.units + now ≡ s.units + old)) → (false ≡ r.same) × (old ≡ r.units + next)
    go zero r w = absurd (cc)
    go (suc k) r w =
        let q : Some (record { same = false; units = 1 }) ≡ Some w.0 =
        ap (λ (x : Option (List TypePair)). elim x as (λ y. Option Compared) [ None ↦ Some (record { same = false; units = 1 }) | Some qs ↦ option_map (dearer 1) (compare_types k (qs ++ ps)) ]) (sym t) ∙ w.1 in
        let c : record { same = false; units = 1 } ≡ w.0 = cc in
        let same : false ≡ w.0.same = ap (λ c. c.same) c in
        let units : 1 ≡ w.0.units = ap (λ c. c.units) c in
        (same ∙ sym w.2, omega (arith, w.3, units, u))

cost_some : (n : ℕ) (ps : List TypePair) (o : Option (List TypePair)) (s : Compared) →
    (elim o as (λ y. Option Compared) [ None ↦ Some (record { same = false; units = 1 }) | Some qs ↦ option_map (dearer 1) (compare_types n (qs ++ ps)) ]) ≡ Some s → 0 < s.units
cost_some n ps None s e =
    let c : record { same = false; units = 1 } ≡ s = cc in
    omega (arith, ap (λ x. x.units) c)
cost_some n ps (Some qs) s e = let f = from_map (dearer 1) (compare_types n (qs ++ ps)) s e in omega (arith, ap (λ x. x.units) f.2)

pub pairs_left : (old now : ℕ) (o : Option Compared) (m : ℕ) (p : TypePair) (ps : List TypePair) → now ≡ 0 →
    IsRest old now o (compare_types m (p ∷ ps)) → (r : Compared) → o ≡ Some r → old < r.units
pairs_left old now o m p ps u h r e = go m (h r e)
  where
    go : (m : ℕ) → ((s : Compared) × (compare_types m (p ∷ ps) ≡ Some s) × (r.same ≡ s.same) × (r.units + now ≡ s.units + old)) → old < r.units
    go zero w = absurd (cc)
    go (suc k) w = let c = cost_some k ps (same_top p.left p.right) w.0 w.1 in omega (arith, w.3, u, c)

pub pairs_done : (old now : ℕ) (o : Option Compared) (m : ℕ) (ps : List TypePair) → ps ≡ [] → IsRest old now o (compare_types m ps) → IsComparedTo true old now o
pairs_done old now o m ps z h = λ r e. go m r (h r e)
  where
    go : (m : ℕ) (r : Compared) → ((s : Compared) × (compare_types m ps ≡ Some s) × (r.same ≡ s.same) × (r.units + now ≡ s.units + old)) → (true ≡ r.same) × (old ≡ r.units + now)
    go zero r w = absurd (cc)
    go (suc k) r w =
        let q : Some (record { same = true; units = 0 }) ≡ Some w.0 = ap (compare_types (suc k)) (sym z) ∙ w.1 in
        let c : record { same = true; units = 0 } ≡ w.0 = cc in
        let same : true ≡ w.0.same = ap (λ c. c.same) c in
        let units : 0 ≡ w.0.units = ap (λ c. c.units) c in
        (same ∙ sym w.2, omega (arith, w.3, units))

-- the parts of two types that begin alike
abbrev tree_all : Nodes → List TypeId → Tys
tree_all b ids = tys (map (type_tree b) (map (λ t. t.0) ids))

abbrev with_pair : TypePair → Option (List TypePair) → Option (List TypePair)
with_pair p o = elim o [ None ↦ None | Some ps ↦ Some (p ∷ ps) ]

parts_even : (b : Nodes) (θ : ℕ → Ty) (ids js : List TypeId) → length ids ≡ length js → parts_of (instances θ (tree_all b ids)) (instances θ (tree_all b js)) ≡ Some (type_pairs_of b θ (paired ids js))
parts_even b θ [] [] e = refl
parts_even b θ [] (j ∷ js) e = absurd (omega arith)
parts_even b θ (i ∷ ids) [] e = absurd (omega arith)
parts_even b θ (i ∷ ids) (j ∷ js) e = ap (with_pair (type_pair_of b θ (i, j))) (parts_even b θ ids js (omega arith))

parts_uneven : (b : Nodes) (θ : ℕ → Ty) (ids js : List TypeId) → length ids ≢ length js → parts_of (instances θ (tree_all b ids)) (instances θ (tree_all b js)) ≡ None
parts_uneven b θ [] [] e = absurd (e refl)
parts_uneven b θ [] (j ∷ js) e = refl
parts_uneven b θ (i ∷ ids) [] e = refl
parts_uneven b θ (i ∷ ids) (j ∷ js) e = ap (with_pair (type_pair_of b θ (i, j))) (parts_uneven b θ ids js (λ q. e (ap suc q)))

tops_of : (b : Nodes) (θ : ℕ → Ty) (c d : ℕ) (ids js : List TypeId) (A B : Ty) → con c (tree_all b ids) ≡ A → con d (tree_all b js) ≡ B → c ≡ d →
    same_top (instance θ A) (instance θ B) ≡ parts_of (instances θ (tree_all b ids)) (instances θ (tree_all b js))
tops_of b θ c d ids js A B p q e =
    (λ i. same_top (instance θ (sym p i)) (instance θ (sym q i))) ∙ ap (λ x. if x then parts_of (instances θ (tree_all b ids)) (instances θ (tree_all b js)) else None) (eq-eqb c d e)

put_in_front : (b : Nodes) (θ : ℕ → Ty) (old xs : List (TypeId × TypeId)) → type_pairs_of b θ (reverse (old ++ reverse xs)) ≡ type_pairs_of b θ xs ++ type_pairs_of b θ (reverse old)
put_in_front b θ old xs =
    ap (map (type_pair_of b θ)) (reverse-append old (reverse xs) ∙ ap (λ l. l ++ reverse old) (reverse-reverse xs)) ∙ map-append (type_pair_of b θ) xs (reverse old)

pub tops_even : (b : Nodes) (θ : ℕ → Ty) (c d : ℕ) (ids js : List TypeId) (A B : Ty) (old new : List (TypeId × TypeId)) → con c (tree_all b ids) ≡ A → con d (tree_all b js) ≡ B → c ≡ d →
    length ids ≡ length js → new ≡ old ++ reverse (paired ids js) → HasSameTop true (same_top (instance θ A) (instance θ B)) (type_pairs_of b θ (reverse old)) (type_pairs_of b θ (reverse new))
tops_even b θ c d ids js A B old new p q e l n =
    (type_pairs_of b θ (paired ids js), tops_of b θ c d ids js A B p q e ∙ parts_even b θ ids js l, ap (λ z. type_pairs_of b θ (reverse z)) n ∙ put_in_front b θ old (paired ids js))

pub tops_uneven : (b : Nodes) (θ : ℕ → Ty) (c d : ℕ) (ids js : List TypeId) (A B : Ty) → con c (tree_all b ids) ≡ A → con d (tree_all b js) ≡ B → c ≡ d →
    length ids ≢ length js → same_top (instance θ A) (instance θ B) ≡ None
tops_uneven b θ c d ids js A B p q e l = tops_of b θ c d ids js A B p q e ∙ parts_uneven b θ ids js l

pub tops_arrow : (b : Nodes) (θ : ℕ → Ty) (x y z w : TypeId) (A B : Ty) (old new : List (TypeId × TypeId)) → arrow (type_tree b x.0) (type_tree b y.0) ≡ A → arrow (type_tree b z.0) (type_tree b w.0) ≡ B →
    new ≡ (old ++ (y, w) ∷ []) ++ (x, z) ∷ [] → HasSameTop true (same_top (instance θ A) (instance θ B)) (type_pairs_of b θ (reverse old)) (type_pairs_of b θ (reverse new))
tops_arrow b θ x y z w A B old new p q n = (
  type_pair_of b θ (x, z) ∷ type_pair_of b θ (y, w) ∷ [],
  (λ i. same_top (instance θ (sym p i)) (instance θ (sym q i))),
  ap (λ l. type_pairs_of b θ (reverse l)) (n ∙ append_assoc old ((y, w) ∷ []) ((x, z) ∷ [])) ∙ put_in_front b θ old ((x, z) ∷ (y, w) ∷ []),
)

-- the pair on top of the stack
popped : (b : Nodes) (θ : ℕ → Ty) (items rest : List (TypeId × TypeId)) (one other : TypeId) → items ≡ rest ++ (one, other) ∷ [] →
    type_pairs_of b θ (reverse items) ≡ type_pair_of b θ (one, other) ∷ type_pairs_of b θ (reverse rest)
popped b θ items rest one other q = ap (λ l. type_pairs_of b θ (reverse l)) q ∙ ap (map (type_pair_of b θ)) (reverse-append rest ((one, other) ∷ []))

module _ (b : Nodes) (θ : ℕ → Ty) (old now m : ℕ) (o : Option Compared) (items rest : List (TypeId × TypeId)) (one other : TypeId) (q : items ≡ rest ++ (one, other) ∷ [])
    (h : IsRest old now o (compare_types m (type_pairs_of b θ (reverse items)))) where
  on_top : IsRest old now o (compare_types m (type_pair_of b θ (one, other) ∷ type_pairs_of b θ (reverse rest)))
  on_top = transport (λ l. IsRest old now o (compare_types m l)) (popped b θ items rest one other q) h

  pub types_next : (next : ℕ) (news : List (TypeId × TypeId)) (one' other' : TypeId) → now ≡ suc next → instance θ (type_tree b one'.0) ≡ instance θ (type_tree b one.0) →
      instance θ (type_tree b other'.0) ≡ instance θ (type_tree b other.0) →
      HasSameTop true (same_top (instance θ (type_tree b one'.0)) (instance θ (type_tree b other'.0))) (type_pairs_of b θ (reverse rest)) (type_pairs_of b θ (reverse news)) →
      (k : ℕ) × IsRest old next o (compare_types k (type_pairs_of b θ (reverse news)))
  types_next next news one' other' u e f s =
      let w = more_pairs old now next o m (type_pair_of b θ (one, other)) (type_pairs_of b θ (reverse rest)) s.0 u ((λ i. same_top (sym e i) (sym f i)) ∙ s.1) on_top in
      (w.0, transport (λ l. IsRest old next o (compare_types w.0 l)) (sym s.2) w.1)

  pub types_apart : (next : ℕ) (one' other' : TypeId) → now ≡ suc next → instance θ (type_tree b one'.0) ≡ instance θ (type_tree b one.0) →
      instance θ (type_tree b other'.0) ≡ instance θ (type_tree b other.0) → same_top (instance θ (type_tree b one'.0)) (instance θ (type_tree b other'.0)) ≡ None → IsComparedTo false old next o
  types_apart next one' other' u e f s =
      pairs_differ old now next o m (type_pair_of b θ (one, other)) (type_pairs_of b θ (reverse rest)) u ((λ i. same_top (sym e i) (sym f i)) ∙ s) on_top

  pub types_spent : now ≡ 0 → (r : PatternRefusal) → r ≡ Deep → IsPassed r old o
  types_spent u r e = transport (λ x. IsPassed x old o) (sym e) (pairs_left old now o m (type_pair_of b θ (one, other)) (type_pairs_of b θ (reverse rest)) u on_top)

pub types_done : (b : Nodes) (θ : ℕ → Ty) (old now m : ℕ) (o : Option Compared) (items : List (TypeId × TypeId)) → items ≡ [] →
    IsRest old now o (compare_types m (type_pairs_of b θ (reverse items))) → IsComparedTo true old now o
types_done b θ old now m o items q h = pairs_done old now o m (type_pairs_of b θ (reverse items)) (ap (λ l. type_pairs_of b θ (reverse l)) q) h

pub types_start : (b : Nodes) (θ : ℕ → Ty) (units n : ℕ) (pairs items : List (TypeId × TypeId)) → items ≡ reverse pairs →
    IsRest units units (compare_types n (type_pairs_of b θ pairs)) (compare_types n (type_pairs_of b θ (reverse items)))
types_start b θ units n pairs items q = λ r e. (r, ap (λ l. compare_types n (type_pairs_of b θ l)) (ap reverse q ∙ reverse-reverse pairs) ∙ e, refl, refl)
