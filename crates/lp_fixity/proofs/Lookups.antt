-- What a table has at each name after a change, from the list of its entries.
use Rattle.std.proofs.Common.{◌≡◌, ℕ, List, [], ◌∷◌, Option, Some, Bool, true, false, refl, sym, ap, ◌∙◌, true≢false}
use Rattle.std.specs.Prelude.{if◌then◌else◌}
use Rattle.std.specs.Str.{bytes_eq}
use Rattle.std.specs.Map.{lookup}
use Rattle.indexmap.specs.IndexMap.{insert_entry}
use Rattle.std.proofs.lemmas.Slice.Eq.{bytes_eq-Decides}

-- two tests of one name cannot both hold where their keys differ
only_one : (name a b : List ℕ) → bytes_eq a b ≡ false → bytes_eq name a ≡ true → bytes_eq name b ≡ true → ⊥
only_one name a b apart p q =
    let e : name ≡ a = (bytes_eq-Decides name a).0 p in
    let f : name ≡ b = (bytes_eq-Decides name b).0 q in
    true≢false (sym ((bytes_eq-Decides a b).1 (sym e ∙ f)) ∙ apart)

swap_tests : {X : Type 0} (p q : Bool) (u v l : Option X) → (p ≡ true → q ≡ true → ⊥) → (if p then u else (if q then v else l)) ≡ (if q then v else (if p then u else l))
swap_tests true true u v l apart = absurd (apart refl refl)
swap_tests true false u v l apart = refl
swap_tests false q u v l apart = refl

same_test : {X : Type 0} (p : Bool) (u v l : Option X) → (if p then v else l) ≡ (if p then v else (if p then u else l))
same_test true u v l = refl
same_test false u v l = refl

module _ {K X : Type 0} (items : K → List ℕ) (k : K) (v : X) (name : List ℕ) where
  At : List (K × X) → Option X
  At es = lookup (λ x. bytes_eq name (items x)) es

  put_by : (e : K × X) (es : List (K × X)) → At (insert_entry (λ x y. bytes_eq (items x) (items y)) es k v) ≡ (if bytes_eq name (items k) then Some v else At es) → (t : Bool) → bytes_eq (items k) (items e.0) ≡ t →
      At (if t then (e.0, v) ∷ es else e ∷ insert_entry (λ x y. bytes_eq (items x) (items y)) es k v) ≡ (if bytes_eq name (items k) then Some v else (if bytes_eq name (items e.0) then Some e.1 else At es))
  unfolding At
  put_by e es ih true same =
      let f : items k ≡ items e.0 = (bytes_eq-Decides (items k) (items e.0)).0 same in
      rw f (same_test (bytes_eq name (items e.0)) (Some e.1) (Some v) (lookup (λ x. bytes_eq name (items x)) es))
  put_by e es ih false apart =
      ap (λ o. if bytes_eq name (items e.0) then Some e.1 else o) ih ∙
      swap_tests (bytes_eq name (items e.0)) (bytes_eq name (items k)) (Some e.1) (Some v) (lookup (λ x. bytes_eq name (items x)) es) (λ p q. only_one name (items k) (items e.0) apart q p)

  -- the entries after a value is put at a key, looked up by bytes
  pub lookup_put : (es : List (K × X)) → lookup (λ x. bytes_eq name (items x)) (insert_entry (λ x y. bytes_eq (items x) (items y)) es k v) ≡ (if bytes_eq name (items k) then Some v else lookup (λ x. bytes_eq name (items x)) es)
  unfolding At
  lookup_put [] = refl
  lookup_put (e ∷ es) = put_by e es (lookup_put es) (bytes_eq (items k) (items e.0)) refl
