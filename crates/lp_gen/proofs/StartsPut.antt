-- The variables with which the records of an assumption start, as they are kept.
use Rattle.std.proofs.Common.{◌≡◌, ◌∙◌, ◌⊎◌, inl, inr, ⊎_elim, ℕ, zero, suc, ◌+◌, List, [], ◌∷◌, ◌++◌, length, Bool, true, false, Option, Some, None, ap, refl, sym, subst, arith, true≢false}
use Rattle.std.specs.Prelude.{nat_eq, ◌||◌, if◌then◌else◌, is_some, option_map, slice_get}
use Rattle.std.specs.List.{IsDistinct}
use Rattle.std.proofs.lemmas.Bool.{eqb-true, eq-eqb, ne_eqb}
use Rattle.std.proofs.lemmas.List.{append-nil, length-append}
use Rattle.indexmap.specs.IndexMap.{IndexMap, get, index_map_len, Updates}
use Rattle.lp_term.specs.Nodes.{Nodes}
use Rattle.lp_code.specs.States.{member}
use Rattle.lp_gen.specs.declared.environment.Variable.{Variable}
use Rattle.lp_gen.specs.Steps.{Seen, Around, at_level}
use Rattle.lp_gen.specs.inner.Listing.{seen}
use Rattle.lp_gen.specs.inner.BodyCode.{levels_found, level_found, AreStarts, started_at, AreAllSet}
use Rattle.lp_gen.proofs.AssumptionPut.{found_last}

no_level : (l : ℕ) → None ≡ Some l → ⊥
no_level l e = cc

no_seen : (v : Seen) → None ≡ Some v → ⊥
no_seen v e = cc

same_level : (k l : ℕ) → ◌≡◌ {A = Option ℕ} (Some k) (Some l) → l ≡ k
same_level k l e = cc

-- what stands at the end of a list, or before it
level_at : (xs : List ℕ) (x y i : ℕ) → slice_get (xs ++ x ∷ []) i ≡ Some y → ((i ≡ length xs) × (y ≡ x)) ⊎ (slice_get xs i ≡ Some y)
level_at [] x y zero e = inl (refl, same_level x y e)
level_at [] x y (suc i) e = absurd (no_level y e)
level_at (z ∷ zs) x y zero e = inr e
level_at (z ∷ zs) x y (suc i) e = ⊎_elim (λ q. inl (ap suc q.0, q.1)) (λ q. inr q) (level_at zs x y i e)

at_last : (xs : List ℕ) (x : ℕ) → slice_get (xs ++ x ∷ []) (length xs) ≡ Some x
at_last [] x = refl
at_last (y ∷ ys) x = at_last ys x

at_front : (xs : List ℕ) (x y i : ℕ) → slice_get xs i ≡ Some y → slice_get (xs ++ x ∷ []) i ≡ Some y
at_front [] x y i e = absurd (no_level y e)
at_front (z ∷ zs) x y zero e = e
at_front (z ∷ zs) x y (suc i) e = at_front zs x y i e

-- levels that are all different

distinct_front : (ys : List ℕ) (l : ℕ) → IsDistinct nat_eq (ys ++ l ∷ []) → IsDistinct nat_eq ys × (member l ys ≡ true → ⊥)
unfolding IsDistinct
distinct_front [] l d = (tt, λ e. true≢false (sym e))
distinct_front (y ∷ ys) l d =
    let rest = distinct_front ys l d.1 in
    let here = apart ys d.0 in
    ((here.0, rest.0), λ e. go (nat_eq l y) refl e rest.1 here.1)
  where
    apart : (zs : List ℕ) → Rattle.std.specs.List.AllByRecursion (λ z. nat_eq y z ≡ false) (zs ++ l ∷ []) → Rattle.std.specs.List.AllByRecursion (λ z. nat_eq y z ≡ false) zs × (nat_eq y l ≡ false)
    apart [] x = (tt, x.0)
    apart (z ∷ zs) x = let r = apart zs x.1 in ((x.0, r.0), r.1)

    go : (t : Bool) → nat_eq l y ≡ t → (nat_eq l y || member l ys) ≡ true → (member l ys ≡ true → ⊥) → nat_eq y l ≡ false → ⊥
    go true q e f g = true≢false (sym (eq-eqb y l (sym (eqb-true l y q))) ∙ g)
    go false q e f g = f (sym (ap (λ t. t || member l ys) q) ∙ e)

or_right : (c d : Bool) → d ≡ true → (c || d) ≡ true
or_right true d e = refl
or_right false d e = e

member_first : (l k : ℕ) (ks : List ℕ) → l ≡ k → member l (k ∷ ks) ≡ true
member_first l k ks e = ap (λ t. t || member l ks) (eq-eqb l k e)

-- levels that are found are some of those that are looked for
pub found_among : (a : Around) (ks : List ℕ) (i l : ℕ) → slice_get (levels_found a ks) i ≡ Some l → member l ks ≡ true
found_among a [] i l e = absurd (no_level l e)
found_among a (k ∷ ks) i l e = go (at_level a k) i (λ j f. found_among a ks j l f) e
  where
    go : (o : Option Seen) (i : ℕ) → ((j : ℕ) → slice_get (levels_found a ks) j ≡ Some l → member l ks ≡ true) → slice_get (level_found o k ++ levels_found a ks) i ≡ Some l → member l (k ∷ ks) ≡ true
    go None i rest e = or_right (nat_eq l k) (member l ks) (rest i e)
    go (Some v) zero rest e = member_first l k ks (same_level k l e)
    go (Some v) (suc i) rest e = or_right (nat_eq l k) (member l ks) (rest i e)

pub starts_begin : {S : Type 0} (b : Nodes) (a : Around) (m : IndexMap ℕ Variable S) → m.entries ≡ [] → AreStarts a [] (started_at b m) (index_map_len m)
starts_begin b a m e = record {
  count_is = ap length e;
  given = λ i l at. absurd (no_level l at);
  only = λ l v at. absurd (no_seen v (sym (ap (λ es. option_map (seen b) (Rattle.std.specs.Map.lookup (nat_eq l) es)) e) ∙ at));
}

-- one level more
pub starts_push : {S : Type 0} (b : Nodes) (a : Around) (ks : List ℕ) (l n : ℕ) (v : Variable) (old : Option Variable) (m m' : IndexMap ℕ Variable S) → IsDistinct nat_eq (ks ++ l ∷ []) →
    (IsDistinct nat_eq ks → AreStarts a (levels_found a ks) (started_at b m) (index_map_len m)) → at_level a l ≡ Some (seen b v) → n ≡ length (levels_found a ks) →
    Updates nat_eq m m' l (Some (record { register = n; of = v.of; is_set = true })) → old ≡ get nat_eq m l → index_map_len m' ≡ index_map_len m + (if is_some old then 0 else 1) →
    AreStarts a (levels_found a (ks ++ l ∷ [])) (started_at b m') (index_map_len m')
starts_push b a ks l n v old m m' distinct so_far found number updates was size =
    let d = distinct_front ks l distinct in
    let x = so_far d.0 in
    let ls = levels_found a ks in
    let more : levels_found a (ks ++ l ∷ []) ≡ ls ++ l ∷ [] = found_last a ks l ∙ ap (λ o. ls ++ level_found o l) found in
    let long = length-append ls (l ∷ []) in
    let one : length (l ∷ []) ≡ 1 = refl in
    let count = x.count_is in
    let none = absent x d.1 (get nat_eq m l) refl in
    let new_one : index_map_len m' ≡ index_map_len m + 1 = size ∙ ap (λ o. index_map_len m + (if is_some o then 0 else 1)) (was ∙ none) in
    subst (λ z. AreStarts a z (started_at b m') (index_map_len m')) (sym more) (record {
      count_is = let z : index_map_len m' ≡ length (ls ++ l ∷ []) = omega (arith, new_one, count, long, one) in z;
      given = λ i k at. ⊎_elim
          (λ q. (
            seen b v,
            ap (at_level a) q.1 ∙ found,
            ap (λ j. started_at b m' j) q.1 ∙ ap (option_map (seen b)) updates.1
                ∙ (let z : n ≡ i = number ∙ sym q.0 in ap (λ r. Some (record { register = r; of = (seen b v).of; is_set = true })) z),
          ))
          (λ q. let w = x.given i k q in (w.0, w.1, ap (option_map (seen b)) (updates.2 k (ne_eqb l k (λ e. d.1 (found_among a ks i l (q ∙ ap (λ j. Some j) (sym e)))))) ∙ w.2)) (level_at ls l k i at);
      only = λ k w at. by_same k (nat_eq l k) refl w at x;
    })
  where
    absent : AreStarts a (levels_found a ks) (started_at b m) (index_map_len m) → (member l ks ≡ true → ⊥) → (o : Option Variable) → get nat_eq m l ≡ o → get nat_eq m l ≡ None
    absent x none None e = e
    absent x none (Some w) e = let y = x.only l (seen b w) (ap (option_map (seen b)) e) in absurd (none (found_among a ks y.0 l y.1))

    by_same : (k : ℕ) (t : Bool) → nat_eq l k ≡ t → (w : Seen) → started_at b m' k ≡ Some w → AreStarts a (levels_found a ks) (started_at b m) (index_map_len m) →
        (i : ℕ) × (slice_get (levels_found a ks ++ l ∷ []) i ≡ Some k)
    by_same k true e w at x = (length (levels_found a ks), at_last (levels_found a ks) l ∙ ap (λ j. Some j) (eqb-true l k e))
    by_same k false e w at x = let y = x.only k w (sym (ap (option_map (seen b)) (updates.2 k e)) ∙ at) in (y.0, at_front (levels_found a ks) l k y.0 y.1)

-- a level that is not found
pub starts_skip : {S : Type 0} (b : Nodes) (a : Around) (ks : List ℕ) (l : ℕ) (m : IndexMap ℕ Variable S) → IsDistinct nat_eq (ks ++ l ∷ []) →
    (IsDistinct nat_eq ks → AreStarts a (levels_found a ks) (started_at b m) (index_map_len m)) → at_level a l ≡ None → AreStarts a (levels_found a (ks ++ l ∷ [])) (started_at b m) (index_map_len m)
starts_skip b a ks l m distinct so_far found =
    subst (λ z. AreStarts a z (started_at b m) (index_map_len m)) (sym (found_last a ks l ∙ ap (λ o. levels_found a ks ++ level_found o l) found ∙ append-nil (levels_found a ks)))
    (so_far (distinct_front ks l distinct).0)

same_seen : (v w : Seen) → ◌≡◌ {A = Option Seen} (Some v) (Some w) → w ≡ v
same_seen v w e = cc

-- variables with which records start are set
pub starts_set : {S : Type 0} (b : Nodes) (a : Around) (ls : List ℕ) (m : IndexMap ℕ Variable S) (n : ℕ) → AreStarts a ls (started_at b m) n → AreAllSet b m
starts_set b a ls m n x l v e =
    let o = x.only l v e in
    let g = x.given o.0 l o.1 in
    ap (λ (y : Seen). y.is_set) (same_seen (record { register = o.0; of = g.0.of; is_set = true }) v (sym g.2 ∙ e))
