-- The places of names one by one.
use Rattle.std.proofs.Common.{◌≡◌, ℕ, ◌+◌, ◌<◌, ◌≤◌, List, [], ◌∷◌, ◌++◌, length, map, drop, get_or, refl, sym, ap, ◌∙◌, subst, Option, Some, None, append_assoc, Bool, true, false, suc, arith}
use Rattle.std.specs.Prelude.{All, Vec, option_map, if◌then◌else◌}
use Rattle.std.specs.Global.{Global}
use Rattle.std.specs.Str.{bytes_eq}
use Rattle.std.proofs.lemmas.List.{drop_more, drop_all, append-nil}
use Rattle.std.proofs.lemmas.List.Elements.{All-nil, All-cons, All-append}
use Rattle.lp_places.specs.Places.{first_place, place_list, places_in}

module _ (table : List (List ℕ)) (us : List (Vec ℕ Global)) (i : ℕ) where
  abbrev rest : List ℕ
  rest = places_in table (map (λ u. u.items) (drop (i + 1) us))

  -- the next name, with a place and without
  step : (u : Vec ℕ Global) (o : Option ℕ) (old : List ℕ) → i < length us → u ≡ get_or us i u → o ≡ first_place u.items table → old ++ places_in table (map (λ u. u.items) (drop i us)) ≡ old ++ (place_list o ++ rest)
  step u o old h at is =
      ap (λ l. old ++ l) (ap (λ l. places_in table (map (λ u. u.items) l)) (drop_more us i u h ∙ ap (λ x. x ∷ drop (i + 1) us) (sym at)) ∙ ap (λ o. place_list o ++ rest) (sym is))

  pub place_more : (u : Vec ℕ Global) (m : ℕ) (old new all : List ℕ) → i < length us → u ≡ get_or us i u → Some m ≡ first_place u.items table → new ≡ old ++ m ∷ [] →
      old ++ places_in table (map (λ u. u.items) (drop i us)) ≡ all → new ++ places_in table (map (λ u. u.items) (drop (i + 1) us)) ≡ all
  place_more u m old new all h at is pushed e = ap (λ n. n ++ rest) pushed ∙ append_assoc old (m ∷ []) rest ∙ sym (step u (Some m) old h at is) ∙ e

  pub place_none : (u : Vec ℕ Global) (old all : List ℕ) → i < length us → u ≡ get_or us i u → None ≡ first_place u.items table →
      old ++ places_in table (map (λ u. u.items) (drop i us)) ≡ all → old ++ places_in table (map (λ u. u.items) (drop (i + 1) us)) ≡ all
  place_none u old all h at is e = sym (step u None old h at is) ∙ e

  pub places_done : (old all : List ℕ) → length us ≤ i → old ++ places_in table (map (λ u. u.items) (drop i us)) ≡ all → old ≡ all
  places_done old all h e = sym (ap (λ l. old ++ places_in table (map (λ u. u.items) l)) (drop_all i us h) ∙ append-nil old) ∙ e

-- a place is one of the list
place_below : (name : List ℕ) (table : List (List ℕ)) (i : ℕ) → first_place name table ≡ Some i → i < length table
place_below name [] i e = absurd (cc)
place_below name (n ∷ ns) i e = by (place_below name ns) (bytes_eq name n) e
  where
    deeper : ((j : ℕ) → first_place name ns ≡ Some j → j < length ns) → (o : Option ℕ) → first_place name ns ≡ o → option_map (λ i. suc i) o ≡ Some i → i < length (n ∷ ns)
    deeper h None q p = absurd (cc)
    deeper h (Some j) q p =
        let r : suc j ≡ i = cc in
        let l = h j q in
        omega (arith, r, l)

    by : ((j : ℕ) → first_place name ns ≡ Some j → j < length ns) → (t : Bool) → (if t then Some 0 else option_map (λ i. suc i) (first_place name ns)) ≡ Some i → i < length (n ∷ ns)
    by h true p =
        let r : 0 ≡ i = cc in
        omega (arith, r)
    by h false p = deeper h (first_place name ns) refl p

place_within : (table : List (List ℕ)) (n : ℕ) (u : List ℕ) (o : Option ℕ) → length table ≡ n → first_place u table ≡ o → All (λ m. m < n) (place_list o)
place_within table n u None e is = All-nil (λ m. m < n)
place_within table n u (Some m) e is = All-cons (λ m. m < n) m [] (subst (λ k. m < k) e (place_below u table m is)) (All-nil (λ m. m < n))

pub places_within : (table : List (List ℕ)) (n : ℕ) (us : List (List ℕ)) → length table ≡ n → All (λ m. m < n) (places_in table us)
places_within table n [] e = All-nil (λ m. m < n)
places_within table n (u ∷ us) e = All-append (λ m. m < n) (place_list (first_place u table)) (places_in table us) (place_within table n u (first_place u table) e refl) (places_within table n us e)
