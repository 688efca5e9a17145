-- The objects that each object uses are objects.
use Rattle.std.proofs.Common.{◌≡◌, ℕ, ◌+◌, ◌<◌, ◌≤◌, List, [], ◌∷◌, ◌++◌, length, map, take, get_or, sym, ap, subst, ◌∙◌}
use Rattle.std.specs.Prelude.{All, Vec}
use Rattle.std.specs.Global.{Global}
use Rattle.std.proofs.lemmas.List.{take_all, length-map, map-append, map_more}
use Rattle.std.proofs.lemmas.List.Elements.{All-nil, All-cons}
use Rattle.lp_copies.specs.Trees.{lists_in}
use Rattle.lp_places.specs.Places.{places_in}
use Rattle.lp_places.proofs.Numbers.{places_within}
use Rattle.lp_code.specs.declared.object.Object.{Object}
use Rattle.lp_link.specs.Uses.{names_of, uses_of}

-- one more object
pub object_more : (os : List Object) (i : ℕ) (o : Object) (out : Vec ℕ Global) (old new : List (Vec ℕ Global)) → i < length os → o ≡ get_or os i o →
    out.items ≡ places_in (names_of os) (map (λ u. u.items) o.uses.items) → new ≡ old ++ out ∷ [] →
    lists_in old ≡ map (λ o. places_in (names_of os) (map (λ u. u.items) o.uses.items)) (take i os) → lists_in new ≡ map
    (λ o. places_in (names_of os) (map (λ u. u.items) o.uses.items)) (take (i + 1) os)
object_more os i o out old new h at is pushed e =
    ap lists_in pushed ∙ map-append (λ o. o.items) old (out ∷ []) ∙ ap (λ l. l ++ out.items ∷ []) e ∙
    ap (λ x. map f (take i os) ++ x ∷ []) (is ∙ ap f at) ∙ sym (map_more f os i o h)
  where
    f : Object → List ℕ
    f o = places_in (names_of os) (map (λ u. u.items) o.uses.items)

pub objects_done : (os : List Object) (i : ℕ) (uses : List (Vec ℕ Global)) → length os ≤ i → lists_in uses ≡ map
    (λ o. places_in (names_of os) (map (λ u. u.items) o.uses.items)) (take i os) → lists_in uses ≡ uses_of os
objects_done os i uses h e = e ∙ ap (map (λ o. places_in (names_of os) (map (λ u. u.items) o.uses.items))) (take_all i os h)

each_within : (names : List (List ℕ)) (n : ℕ) (os : List Object) → length names ≡ n → All (λ out. All (λ m. m < n) out) (map (λ o. places_in names (map (λ u. u.items) o.uses.items)) os)
each_within names n [] e = All-nil (λ out. All (λ m. m < n) out)
each_within names n (o ∷ os) e = All-cons (λ out. All (λ m. m < n) out) _ _ (places_within names n (map (λ u. u.items) o.uses.items) e) (each_within names n os e)

pub uses_count : (os : List Object) (uses : List (Vec ℕ Global)) → lists_in uses ≡ uses_of os → length uses ≡ length os
uses_count os uses is = sym (length-map uses (λ o. o.items)) ∙ ap length is ∙ length-map os (λ o. places_in (names_of os) (map (λ u. u.items) o.uses.items))

pub uses_within : (os : List Object) (uses : List (Vec ℕ Global)) → lists_in uses ≡ uses_of os → All (λ out. All (λ m. m < length uses) out) (lists_in uses)
uses_within os uses is =
    subst (All (λ out. All (λ m. m < length uses) out)) (sym is) (each_within (names_of os) (length uses) os (length-map os (λ o. o.name.items) ∙ sym (uses_count os uses is)))
